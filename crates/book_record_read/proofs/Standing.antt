-- Records checked one by one: each stands as it would be written behind the one before it.
use Prim.Native.Nat.{◌-◌, ℕ}
use mathlib.Core.Path.{◌∙◌, ◌≡◌}
use mathlib.Core.Bool.{Bool, ◌&&◌, false, true}
use mathlib.Core.List.{List, ◌++◌, ◌∷◌}
use lib.Dec.{eqb, leb}
use lib.ListN.{drop, length, length-append, length-take, take}
use lib.Seq.{drop_at}
use native.Mathlib.Omega.{arith}
use borrow.Author.Tests.{eq-eqb, eqb-false, eqb-true, leb-false, leb-true, ne_eqb}
use Rattle.octets.specs.Octets.{begins, common}
use Rattle.octets.proofs.Coding.{common_grows, common_most}
use Rattle.octets.proofs.Order.{begins-front}
use Rattle.octets.proofs.Tests.{and_false, by_test, eqb_self}
use Rattle.book.specs.Records.{head_at, record_name, record_of}

module _ (heads : Bool) where
  -- one record: a head stands where its bytes are there
  pub head_stands :
      (i len : ℕ) (prev bs : List ℕ) → head_at heads i ≡ true
      → begins (record_of heads i prev (record_name heads i prev (len ∷ bs))) (len ∷ bs) ≡ leb len (length bs)
  unfolding record_of record_name
  head_stands i len prev bs e =
      let l = length-take len bs in
      by_test (leb len (length bs))
      (λ t. let q = leb-true len (length bs) t in
      rw (e, t, eq-eqb (length (take len bs)) len (omega arith)) (begins-front len bs))
      (λ t. let q = leb-false len (length bs) t in rw (e, t, ne_eqb (length (take len bs)) len (λ z. omega arith)))

  tail_form :
      (i c len : ℕ) (prev bs : List ℕ) → head_at heads i ≡ false
      → begins (record_of heads i prev (record_name heads i prev (c ∷ len ∷ bs))) (c ∷ len ∷ bs)
      ≡ (eqb (common prev (take c prev ++ take len bs)) c
      && (eqb (length (take c prev ++ take len bs) - common prev (take c prev ++ take len bs)) len
      && begins (drop (common prev (take c prev ++ take len bs)) (take c prev ++ take len bs)) bs))
  unfolding record_of record_name
  tail_form i c len prev bs e = rw e

  -- another stands where its common byte is within the name before, its bytes are there, and no further byte is shared
  pub tail_stands :
      (i c len : ℕ) (prev bs : List ℕ) → head_at heads i ≡ false
      → begins (record_of heads i prev (record_name heads i prev (c ∷ len ∷ bs))) (c ∷ len ∷ bs)
      ≡ (leb c (length prev) && (leb len (length bs) && eqb (common (drop c prev) (take len bs)) 0))
  tail_stands i c len prev bs e =
      let w = take c prev ++ take len bs in
      let lw = length-append (take c prev) (take len bs) in
      let lc = length-take c prev in
      let ll = length-take len bs in
      let most = common_most prev (take c prev ++ take len bs) in
      tail_form i c len prev bs e
      ∙ by_test (leb c (length prev))
      (λ t.
      let q = leb-true c (length prev) t in
      let g = common_grows c prev (take len bs) q in
      by_test (eqb (common (drop c prev) (take len bs)) 0)
      (λ u.
      let z = eqb-true (common (drop c prev) (take len bs)) 0 u in
      let k : common prev (take c prev ++ take len bs) ≡ c = omega arith in
      by_test (leb len (length bs))
      (λ v.
      let y = leb-true len (length bs) v in
      rw (
        k,
        t,
        u,
        v,
        eqb_self c,
        eq-eqb (length (take c prev ++ take len bs) - c) len (omega arith),
        drop_at (take c prev) (take len bs) c (omega arith),
      )
      (begins-front len bs))
      (λ v.
      let y = leb-false len (length bs) v in
      rw (k, t, v, eqb_self c, ne_eqb (length (take c prev ++ take len bs) - c) len (λ o. omega arith))))
      (λ u.
      let z = eqb-false (common (drop c prev) (take len bs)) 0 u in
      rw (
        t,
        u,
        and_false (leb len (length bs)),
        ne_eqb (common prev (take c prev ++ take len bs)) c (λ o. z (omega arith)),
      )))
      (λ t.
      let q = leb-false c (length prev) t in
      rw (t, ne_eqb (common prev (take c prev ++ take len bs)) c (λ o. omega arith)))
