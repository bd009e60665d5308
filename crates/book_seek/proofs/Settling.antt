-- What a loop keeps of the search: one more name, by the laws of one more name (proofs/Seeking).
use Prim.Native.Nat.{◌+◌, ◌<◌, ◌≤◌, ℕ}
use mathlib.Core.Path.{◌≡◌, ap, refl}
use mathlib.Core.Bool.{false}
use mathlib.Core.List.{List, []}
use lib.Dec.{eqb}
use lib.ListN.{length}
use Rattle.book.specs.Records.{last_or}
use Rattle.book_seek.specs.Seek.{Compares, GoesOn, Next, Seeking, Stands, early, placed, settled, settled_by, stopped}
use Rattle.book_seek.proofs.Seeking.{begun_no_more, begun_still, found_begun, found_over, found_under_lem}
use Rattle.book_seek.proofs.Seeking.{keeps_more, meets, still_over}
use Rattle.book_seek.specs.declared.Order.{Order}
use Rattle.book_seek.specs.declared.Order.TheVariants.{Begun, Below, Past}
use Rattle.book_seek.specs.declared.Seek.{Seek}

-- the three forms of what is kept
module _ (s : Seek) (i at : ℕ) where
  pub settled-early : s.order ≡ Below → settled s i at ≡ early i at s.below
  unfolding settled
  settled-early o = ap (λ x. settled_by x s i at) o

  pub settled-begun :
      s.order ≡ Begun → settled s i at ≡ placed s Begun i
  unfolding settled
  settled-begun o = ap (λ x. settled_by x s i at) o

  pub settled-past : s.order ≡ Past → settled s i at ≡ s
  unfolding settled
  settled-past o = ap (λ x. settled_by x s i at) o

module _ (key : List ℕ) (i at end kept : ℕ) (rest : List ℕ) where
  -- all names so far are below the key
  module _ (b : ℕ) {order : Order} {shared : ℕ} (c : Compares key kept rest b order shared) where
    stood :
        (start : ℕ) (vs : List (List ℕ)) (w : List ℕ) → Seeking key start vs (early i at b)
        → Next start vs w at end kept rest
        → Stands w key order shared
    stood start vs w g n = c (last_or [] vs) w (meets key start vs (early i at b) g w at end kept rest n refl)

    pub met_under :
        order ≡ Below → (r : Seek) → r ≡ early (i + 1) end shared
        → GoesOn key (early i at b) at end kept rest (settled r (i + 1) end)
    met_under z r e =
        let r' : Seek = early (i + 1) end shared in
        let q : settled r (i + 1) end ≡ r' = rw e (settled-early r' (i + 1) end refl) in
        rw q
        (λ start vs w g n.
        found_under_lem key start vs (early i at b) g w at end kept rest n refl (stood start vs w g n) z refl _ refl)

    pub met_begun :
        order ≡ Begun → (r : Seek)
        → r ≡ stopped (early i at b) at Begun (i + 1) shared (eqb (kept + length rest) (length key))
        → GoesOn key (early i at b) at end kept rest (settled r (i + 1) end)
    met_begun z r e =
        let r' : Seek = stopped (early i at b) at Begun (i + 1) shared (eqb (kept + length rest) (length key)) in
        let q : settled r (i + 1) end ≡ r' = rw e (settled-begun r' (i + 1) end refl) in
        rw q
        (λ start vs w g n.
        found_begun key start vs (early i at b) g w at end kept rest n refl (stood start vs w g n) z _ refl)

    pub met_over :
        order ≡ Past → (r : Seek)
        → r ≡ stopped (early i at b) at Past i shared false
        → GoesOn key (early i at b) at end kept rest (settled r (i + 1) end)
    met_over z r e =
        let r' : Seek = stopped (early i at b) at Past i shared false in
        let q : settled r (i + 1) end ≡ r' = rw e (settled-past r' (i + 1) end refl) in
        rw q
        (λ start vs w g n.
        found_over key start vs (early i at b) g w at end kept rest n refl (stood start vs w g n) z _ refl)

  module _ (s : Seek) where
    pub pass_under :
        s.order ≡ Below → s.below < kept
        → GoesOn key (settled s i at) at end kept rest (settled s (i + 1) end)
    pass_under o h =
        rw (settled-early s i at o, settled-early s (i + 1) end o)
        (λ start vs w g n.
        found_under_lem key start vs (early i at s.below) g w at end kept rest n refl
        (stood s.below (keeps_more key kept rest s.below h) start vs w g n) refl refl _ refl)

    -- the key begins the last one
    pub pass_no_more :
        s.order ≡ Begun → kept < length key → (r : Seek)
        → r ≡ placed s Past i
        → GoesOn key (settled s i at) at end kept rest (settled r (i + 1) end)
    pass_no_more o h r e =
        let r' : Seek = placed s Past i in
        let q : settled r (i + 1) end ≡ r' = rw e (settled-past r' (i + 1) end refl) in
        rw (settled-begun s i at o, q)
        (λ start vs w g n. begun_no_more key start vs _ g w at end kept rest n refl h _ refl)

    pub pass_still :
        s.order ≡ Begun → length key ≤ kept
        → GoesOn key (settled s i at) at end kept rest (settled s (i + 1) end)
    pass_still o h =
        rw (settled-begun s i at o, settled-begun s (i + 1) end o)
        (λ start vs w g n. begun_still key start vs _ g w at end kept rest n refl h _ refl)

    -- the last one is past it
    pub pass_over :
        s.order ≡ Past → GoesOn key (settled s i at) at end kept rest (settled s (i + 1) end)
    pass_over o =
        rw (settled-past s i at o, settled-past s (i + 1) end o)
        (λ start vs w g n. still_over key start vs s g w at end kept rest n o)
