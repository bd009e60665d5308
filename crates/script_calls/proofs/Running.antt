-- The whole run: refused by its checks, or played.
use Prim.Native.Nat.{◌*◌, ◌+◌, ◌/◌, ◌<◌, ◌≤◌, ℕ}
use mathlib.Core.Path.{◌≡◌, ap, refl}
use mathlib.Core.Bool.{Bool, false, true}
use mathlib.Core.List.{List}
use mathlib.Core.Option as maybe
use Rattle.std.proofs.Common.{Err, None, Ok, Some}
use lib.ListN.{length}
use native.Mathlib.Omega.{arith}
use borrow.Author.Tests.{eq-eqb, le-ltb, lt-ltb, ne_eqb}
use Rattle.edit.specs.Edits.{empty_book}
use Rattle.ledger.specs.Ledger.{Edit}
use Rattle.script_calls.specs.Code.{AllPlayed, Playable, counted_as}
use Rattle.script.specs.Run.{bench, finish_of, run_of, start_bench, too_small}
use Rattle.script.specs.Script.{calls, calls_of, is_laid}
use Rattle.answer.specs.declared.Refusal.TheVariants as refusal

not_laid : (o : maybe.Option (List Edit)) → None ≡ counted_as 0 o → is_laid o ≡ false
not_laid maybe.none e = refl
not_laid (maybe.some cs) e = cc

count_laid : (o : maybe.Option (List Edit)) (n : ℕ) → Some n ≡ counted_as 0 o → (is_laid o ≡ true)
    × (n ≡ length (calls_of o))
count_laid maybe.none n e = cc
count_laid (maybe.some cs) n e = let q : n ≡ 0 + length cs = cc in (refl, omega arith)

pub run_playable : (script out : List ℕ) {n : ℕ} → Some n ≡ counted_as 0 (calls script) → n ≤ length out / 7
    → Playable script out
run_playable script out {n} e h = let m = count_laid (calls script) n e in
    record { laid = m.0; room = omega (arith, m.1) }

module _ (script a b out : List ℕ) where
  pub run-damaged : None ≡ counted_as 0 (calls script)
      → finish_of (Err refusal.NotLaidOut) a b out ≡ run_of script a b out
  unfolding run_of
  run-damaged e = rw (not_laid (calls script) e)

  module _ {n : ℕ} (e : Some n ≡ counted_as 0 (calls script)) where
    too_small_lem : too_small (calls_of (calls script)) a b out ≡ true
        → finish_of (Err refusal.TooShort) a b out ≡ run_of script a b out
    unfolding run_of
    too_small_lem t = rw ((count_laid (calls script) n e).0, t)

    pub run_short : length a < 7 → finish_of (Err refusal.TooShort) a b out ≡ run_of script a b out
    run_short h = too_small_lem (rw (lt-ltb (length a) 7 h))

    pub run_uneven : 7 ≤ length a → (length b ≡ length a → ⊥)
        → finish_of (Err refusal.TooShort) a b out ≡ run_of script a b out
    run_uneven l h = too_small_lem (rw (le-ltb (length a) 7 l, ne_eqb (length b) (length a) h))

    module _ (l : 7 ≤ length a) (s : length b ≡ length a) where
      pub run_narrow : length out / 7 < n → finish_of (Err refusal.TooShort) a b out ≡ run_of script a b out
      run_narrow h =
          let m = (count_laid (calls script) n e).1 in
          let t = lt-ltb (length out) (7 * length (calls_of (calls script))) (omega arith) in
          too_small_lem (rw (le-ltb (length a) 7 l, eq-eqb (length b) (length a) s, t))

      pub run_done :
          n ≤ length out / 7 → {emptied one two left : List ℕ} {t : Bool} → emptied ≡ (empty_book a).dest
          → AllPlayed script (bench emptied b false) out (bench one two t) left
          → finish_of (Ok (record { calls = n; turned = t })) one two left ≡ run_of script a b out
      unfolding run_of
      run_done h {emptied} {one} {two} {left} {t} d p =
          let k : AllPlayed script (start_bench a b) out (bench one two t) left = rw d at p in
          let m = count_laid (calls script) n e in
          let x = ap (λ y. y.first) k.bench in
          let y = ap (λ y. y.second) k.bench in
          let z = ap (λ y. y.turned) k.bench in
          rw (
            m.0,
            le-ltb (length a) 7 l,
            eq-eqb (length b) (length a) s,
            le-ltb (length out) (7 * length (calls_of (calls script))) (omega (arith, m.1)),
            m.1,
            x,
            y,
            z,
            k.answers,
          )
