-- The range machine offers the completion, in at most 2k - 1 looks.
use Prim.Native.Nat.{◌*◌, ◌+◌, ◌-◌, ◌<◌, ◌≤◌, suc, zero, ℕ}
use mathlib.Core.Path.{◌∙◌, ◌≡◌, ap, refl, sym}
use mathlib.Core.Logic.{◌⊎◌, inl, inr}
use mathlib.Core.Bool.{Bool, false, true}
use mathlib.Core.List.{List, [], ◌++◌, ◌∷◌, append_assoc, append-nil, map}
use lib.Dec.{eqb, ltb}
use lib.ListN.{drop, get_or, length, length-append, length-set, set, take}
use lib.Seq.{drop-cons, drop-drop, get_or-set_other, get_or-set_same, length-take-le, take-add, take_all, take-suc}
use native.Mathlib.Omega.{arith}
use borrow.Author.Tests.{eqb-false, eqb-true, ltb-false, ltb-true}
use Rattle.octets.specs.Lists.{◌∈◌, concat_map}
use Rattle.octets.proofs.Count.{count, count-all, count-append}
use Rattle.octets.proofs.Lists.{append_in, get_in, in_map, take_in}
use Rattle.octets.proofs.Tests.{by_test}
use Rattle.entries.specs.Completion.{completion, first_match, matches, range_start}
use Rattle.entries.specs.Entries.{Entry, at, best, by_rank, no_entry, outranks, rising}
use Rattle.entries.proofs.Matches.{first_fits, matches_span}
use Rattle.entries.proofs.Rank.{best-best, best_lt, not_outranks_trans, rank_first}
use Rattle.entries.proofs.Same.{counted, in_counted, same_entry}
use Rattle.entries.proofs.Span.{span, span_at, span_best, span_length}
use Rattle.completion.specs.declared.Range.{Range}
use Rattle.completion.specs.Machine.{MachineOffers, best_open, bests, machine, no_range, offering, open_range}
use Rattle.completion.specs.Machine.{most_looks, others, parts, run}

-- an open range of es, with its best
record Good (es : List Entry) (r : Range) : Type 0 where
  low : r.first ≤ r.best
  high : r.best ≤ r.last
  inside : r.last < length es
  tops : (e : Entry) → e ∈ span es r.first (suc r.last) → outranks e (at es r.best) ≡ false

abbrev contents : List Entry → List Range → List Entry
contents es rs = concat_map (λ r. span es r.first (suc r.last)) rs

-- a span is what is left of a position, the position, and what is right of it
span_split :
    (es : List Entry) (i t j : ℕ) → i ≤ t → t < j → j ≤ length es → span es i j ≡ span es i t
    ++ (at es t ∷ span es (suc t) j)
span_split es i t j a b c =
    let p : j - i ≡ (t - i) + suc (j - suc t) = omega arith in
    let q : i + (t - i) ≡ t = omega arith in
    rw
    (p, take-add (t - i) (suc (j - suc t)) (drop i es), drop-drop (t - i) i es, q, drop-cons es t no_entry (omega arith))
    refl

-- the best of a range
module _ (es : List Entry) (i j : ℕ) (a : i < j) (c : j ≤ length es) where
  span_good : Good es (record {
    first = i;
    best = i + best (span es i j);
    score = (at es (i + best (span es i j))).score;
    last = j - 1;
  })
  span_good =
      let b = span_best es i j a c in
      let z : suc (j - 1) ≡ j = omega arith in
      record {
        low = omega arith;
        high = omega arith;
        inside = omega arith;
        tops = λ e m. rw (← span_at es i j a c) (best-best (span es i j) e (rw z at m));
      }

open_good : (es : List Entry) (i j : ℕ) → j ≤ length es → (r : Range) → r ∈ open_range es i j → Good es r
unfolding open_range
open_good es i j h r m = by_test (ltb i j) (λ t. one t (rw t at m)) (λ t. absurd (rw t at m))
  where
    one : ltb i j ≡ true → r ∈ (record {
      first = i;
      best = i + best (span es i j);
      score = (at es (i + best (span es i j))).score;
      last = j - 1;
    } ∷ []) → Good es r
    one t (inl q) = rw q (span_good es i j (ltb-true i j t) h)
    one t (inr n) = absurd n

open_contents : (es : List Entry) (i j : ℕ) → contents es (open_range es i j) ≡ span es i j
unfolding open_range
open_contents es i j =
    by_test (ltb i j)
    (λ t. let a = ltb-true i j t in let z : suc (j - 1) ≡ j = omega arith in
    rw (t, append-nil (span es i (suc (j - 1))), z))
    (λ t. let a = ltb-false i j t in let z : j - i ≡ 0 = omega arith in rw (t, z))

pub open_length : (es : List Entry) (i j : ℕ) → length (open_range es i j) ≤ 1
unfolding open_range
open_length es i j = by_test (ltb i j) (λ t. rw t (omega arith)) (λ t. rw t (omega arith))

-- the parts of a range hold all of it but its best
contents_append : (es : List Entry) (rs ts : List Range) → contents es (rs ++ ts) ≡ contents es rs ++ contents es ts
contents_append es [] ts = refl
contents_append es (r ∷ rs) ts = let ih = contents_append es rs ts in
    rw ih (sym (append_assoc (span es r.first (suc r.last)) (contents es rs) (contents es ts)))

parts-count :
    (es : List Entry) (r : Range) (q : Entry → Bool) → Good es r
    → count q (span es r.first (suc r.last)) ≡ count q (at es r.best ∷ []) + count q (contents es (parts es r))
unfolding parts
parts-count es r q g =
    let lo = g.low in
    let hi = g.high in
    let end = g.inside in
    let a = span_split es r.first r.best (suc r.last) (omega arith) (omega arith) (omega arith) in
    let b = count-append q (span es r.first r.best) (at es r.best ∷ span es (suc r.best) (suc r.last)) in
    let c = count-append q (at es r.best ∷ []) (span es (suc r.best) (suc r.last)) in
    let d = count-append q (span es r.first r.best) (span es (suc r.best) (suc r.last)) in
    rw (
      a,
      contents_append es (open_range es r.first r.best) (open_range es (suc r.best) (suc r.last)),
      open_contents es r.first r.best,
      open_contents es (suc r.best) (suc r.last),
    )
    (omega arith)

parts_good : (es : List Entry) (r : Range) → Good es r → (p : Range) → p ∈ parts es r → Good es p
unfolding parts
parts_good es r g p m = go (append_in p (open_range es r.first r.best)
    (open_range es (suc r.best) (suc r.last)) m)
  where
    go : (p ∈ open_range es r.first r.best) ⊎ (p ∈ open_range es (suc r.best) (suc r.last)) → Good es p
    go (inl n) = open_good es r.first r.best (omega (arith, g.high, g.inside)) p n
    go (inr n) = open_good es (suc r.best) (suc r.last) g.inside p n

-- the ranges with another in the place of one
set_in : (rs : List Range) (i : ℕ) (l r : Range) → r ∈ set rs i l → (r ≡ l) ⊎ (r ∈ rs)
set_in [] i l r m = absurd m
set_in (t ∷ rs) zero l r (inl e) = inl e
set_in (t ∷ rs) zero l r (inr m) = inr (inr m)
set_in (t ∷ rs) (suc i) l r (inl e) = inr (inl e)
set_in (t ∷ rs) (suc i) l r (inr m) = go (set_in rs i l r m)
  where
    go : (r ≡ l) ⊎ (r ∈ rs) → (r ≡ l) ⊎ (r ∈ (t ∷ rs))
    go (inl e) = inl e
    go (inr n) = inr (inr n)

pub others_in : (i : ℕ) (rs : List Range) (r : Range) → 0 < length rs → r ∈ others i rs → r ∈ rs
unfolding others
others_in i rs r ne m =
    let l = get_or rs (length rs - 1) no_range in go (set_in rs i l r (take_in (length rs - 1) r (set rs i l) m))
  where
    go : (r ≡ get_or rs (length rs - 1) no_range) ⊎ (r ∈ rs) → r ∈ rs
    go (inl e) = rw e (get_in no_range rs (length rs - 1) (omega arith))
    go (inr n) = n

-- the entries of one range
abbrev span_of : List Entry → Range → List Entry
span_of es r = span es r.first (suc r.last)

set-count :
    (es : List Entry) (q : Entry → Bool) (rs : List Range) (i : ℕ) (l : Range) → i < length rs
    → count q (contents es (set rs i l)) + count q (span_of es (get_or rs i no_range)) ≡ count q (contents es rs) + count q
    (span_of es l)
set-count es q [] i l h = absurd (omega arith)
set-count es q (r ∷ rs) zero l h =
    let a = count-append q (span_of es r) (contents es rs) in
    let b = count-append q (span_of es l) (contents es rs) in
    omega arith
set-count es q (r ∷ rs) (suc i) l h =
    let ih = set-count es q rs i l (omega arith) in
    let a = count-append q (span_of es r) (contents es rs) in
    let b = count-append q (span_of es r) (contents es (set rs i l)) in
    omega arith

-- the last of the ranges, once it stands in another's place, is still the last
last_set : (rs : List Range) (i : ℕ) → i < length rs
    → get_or (set rs i (get_or rs (length rs - 1) no_range)) (length rs - 1) no_range ≡ get_or rs (length rs - 1) no_range
last_set rs i h =
    by_test (eqb (length rs - 1) i)
    (λ t. let z = eqb-true (length rs - 1) i t in rw z (get_or-set_same rs i (get_or rs i no_range) no_range h))
    (λ t. get_or-set_other rs i (length rs - 1) (get_or rs (length rs - 1) no_range) no_range (eqb-false (length rs - 1) i t))

others-count :
    (es : List Entry) (q : Entry → Bool) (rs : List Range) (i : ℕ) → i < length rs
    → count q (contents es rs) ≡ count q (contents es (others i rs)) + count q (span_of es (get_or rs i no_range))
unfolding others
others-count es q rs i h =
    let l = get_or rs (length rs - 1) no_range in
    let ys = set rs i l in
    let z : suc (length rs - 1) ≡ length rs = omega arith in
    let n : length ys ≡ length rs = length-set rs i l in
    let whole : take (length rs) ys ≡ ys = take_all (length rs) ys (omega arith) in
    let split : ys ≡ take (length rs - 1) ys ++ (l ∷ []) =
    sym whole ∙ ap (λ m. take m ys) (sym z) ∙ take-suc ys (length rs - 1) no_range (omega arith)
    ∙ ap (λ r. take (length rs - 1) ys ++ (r ∷ [])) (last_set rs i h)
    in
    let a = set-count es q rs i l h in
    let b = ap (λ t. count q (contents es t)) split in
    let c = ap (count q) (contents_append es (take (length rs - 1) ys) (l ∷ [])) in
    let d = count-append q (contents es (take (length rs - 1) ys)) (contents es (l ∷ [])) in
    let e = ap (count q) (append-nil (span_of es l)) in
    omega arith

contents_in : (es : List Entry) (rs : List Range) (e : Entry) → e ∈ contents es rs → (r : Range) × (r ∈ rs)
    × (e ∈ span es r.first (suc r.last))
contents_in es [] e m = absurd m
contents_in es (r ∷ rs) e m = go (append_in e (span es r.first (suc r.last)) (contents es rs) m)
    (contents_in es rs e)
  where
    go :
        (e ∈ span es r.first (suc r.last)) ⊎ (e ∈ contents es rs)
        → (e ∈ contents es rs → (t : Range) × (t ∈ rs) × (e ∈ span es t.first (suc t.last)))
        → (t : Range) × (t ∈ (r ∷ rs)) × (e ∈ span es t.first (suc t.last))
    go (inl n) ih = (r, inl refl, n)
    go (inr n) ih = let z = ih n in (z.0, inr z.1, z.2)

pub at_map : (es : List Entry) (rs : List Range) (i : ℕ) → i < length rs
    → at (bests es rs) i ≡ at es (get_or rs i no_range).best
at_map es [] i h = absurd (omega arith)
at_map es (r ∷ rs) zero h = refl
at_map es (r ∷ rs) (suc i) h = at_map es rs i (omega arith)

pub length-bests : (es : List Entry) (rs : List Range) → length (bests es rs) ≡ length rs
length-bests es [] = refl
length-bests es (r ∷ rs) = ap suc (length-bests es rs)

-- one step
module _ (es : List Entry) (rs : List Range) (ne : 0 < length rs) (good : (r : Range) → r ∈ rs → Good es r) where
  abbrev at-best : ℕ
  at-best = best (bests es rs)

  abbrev next : List Range
  next = others at-best rs ++ parts es (best_open es rs)

  index : at-best < length rs
  index = let l = length-bests es rs in let b = best_lt (bests es rs) (omega arith) in omega arith

  best_good : Good es (best_open es rs)
  best_good = good (best_open es rs) (get_in no_range rs at-best index)

  next_good : (r : Range) → r ∈ next → Good es r
  next_good r m = go (append_in r (others at-best rs) (parts es (best_open es rs)) m)
    where
      go : (r ∈ others at-best rs) ⊎ (r ∈ parts es (best_open es rs)) → Good es r
      go (inl n) = good r (others_in at-best rs r ne n)
      go (inr n) = parts_good es (best_open es rs) best_good r n

  next_count : (q : Entry → Bool)
      → count q (contents es rs) ≡ count q (at es (best_open es rs).best ∷ contents es next)
  next_count q =
      let a = others-count es q rs at-best index in
      let b = parts-count es (best_open es rs) q best_good in
      let c = count-append q (contents es (others at-best rs)) (contents es (parts es (best_open es rs))) in
      let d = count-append q (at es (best_open es rs).best ∷ []) (contents es next) in
      let e = ap (count q) (contents_append es (others at-best rs) (parts es (best_open es rs))) in
      omega arith

  -- everything in the ranges is outranked by the best of the best range
  all-below : (e : Entry) → e ∈ contents es rs → outranks e (at es (best_open es rs).best) ≡ false
  all-below e m =
      let z = contents_in es rs e m in
      let a = (good z.0 z.1).tops e z.2 in
      let b = best-best (bests es rs) (at es z.0.best) (in_map (λ r. at es r.best) z.0 rs z.1) in
      not_outranks_trans e (at es z.0.best) (at es (best_open es rs).best) a (rw (at_map es rs at-best index) at b)

  next_below : (e : Entry) → e ∈ contents es next → outranks e (at es (best_open es rs).best) ≡ false
  next_below e m =
      all-below e
      (in_counted e (contents es rs)
      (let a = next_count (same_entry e) in
      let b = counted e (contents es next) m in
      let c = count-append (same_entry e) (at es (best_open es rs).best ∷ []) (contents es next) in
      omega arith))

  next_rank : by_rank (contents es rs) ≡ at es (best_open es rs).best ∷ by_rank (contents es next)
  next_rank = rank_first (at es (best_open es rs).best) (contents es rs) (contents es next) next_count next_below

-- the machine offers in rank
run_offers : (es : List Entry) (k : ℕ) (rs : List Range) → ((r : Range) → r ∈ rs → Good es r)
    → map (at es) (run k es rs).offered ≡ take k (by_rank (contents es rs))
unfolding offering
run_offers es zero rs good = refl
run_offers es (suc k) [] good = refl
run_offers es (suc zero) (r ∷ rs) good = rw (next_rank es (r ∷ rs) (omega arith) good)
run_offers es (suc (suc k)) (r ∷ rs) good =
    rw (
      next_rank es (r ∷ rs) (omega arith) good,
      run_offers es (suc k) (next es (r ∷ rs) (omega arith) good) (next_good es (r ∷ rs) (omega arith) good),
    )
    refl

-- the first open range
module _ (es : List Entry) (p : List ℕ) (r : rising es ≡ true) where
  abbrev pub start : ℕ
  start = range_start p es

  abbrev pub stop : ℕ
  stop = range_start p es + length (matches p es)

  start_span : span es start stop ≡ matches p es
  unfolding range_start
  start_span =
      by_test (eqb (length (matches p es)) 0)
      (λ t. let z = eqb-true (length (matches p es)) 0 t in let y = nil_of (matches p es) z in rw (t, y))
      (λ t. let z : first_match p es + length (matches p es) - first_match p es ≡ length (matches p es) = omega arith in
      rw (t, z) (sym (matches_span p es r)))
    where
      nil_of : (l : List Entry) → length l ≡ 0 → l ≡ []
      nil_of [] h = refl
      nil_of (x ∷ l) h = absurd (omega arith)

  pub stop_fits : stop ≤ length es
  unfolding range_start
  stop_fits =
      by_test (eqb (length (matches p es)) 0)
      (λ t. let z = eqb-true (length (matches p es)) 0 t in rw t (omega arith))
      (λ t. rw t (first_fits p es (let z = eqb-false (length (matches p es)) 0 t in
      positive (length (matches p es)) z)))
    where
      positive : (n : ℕ) → (n ≡ 0 → ⊥) → 0 < n
      positive zero h = absurd (h refl)
      positive (suc n) h = omega arith

  -- the machine offers the completion
  machine_offers_lem : (k : ℕ) → map (at es) (machine es p k).offered ≡ completion es p k
  unfolding machine completion
  machine_offers_lem k =
      run_offers es k (open_range es start stop) (open_good es start stop stop_fits)
      ∙ ap (λ l. take k (by_rank l)) (open_contents es start stop ∙ start_span)

-- looks
parts-length : (es : List Entry) (r : Range) → length (parts es r) ≤ 2
unfolding parts
parts-length es r =
    let a = open_length es r.first r.best in
    let b = open_length es (suc r.best) (suc r.last) in
    rw length-append (omega arith)

run_looks : (es : List Entry) (k : ℕ) (rs : List Range) → (run (suc k) es rs).looks ≤ 2 * k
unfolding offering
run_looks es zero [] = omega arith
run_looks es zero (r ∷ rs) = omega arith
run_looks es (suc k) [] = omega arith
run_looks es (suc k) (r ∷ rs) =
    let a = parts-length es (best_open es (r ∷ rs)) in
    let ih = run_looks es k (others (best (bests es (r ∷ rs))) (r ∷ rs) ++ parts es (best_open es (r ∷ rs))) in
    omega arith

pub looks_most : (es : List Entry) (p : List ℕ) (k : ℕ) → 1 ≤ k → (machine es p k).looks ≤ most_looks k
unfolding machine
looks_most es p zero h = absurd (omega arith)
looks_most es p (suc k) h =
    let a = open_length es (range_start p es) (range_start p es + length (matches p es)) in
    let b = run_looks es k (open_range es (range_start p es) (range_start p es + length (matches p es))) in
    omega arith

good_length : (es : List Entry) (rs : List Range) → ((r : Range) → r ∈ rs → Good es r)
    → length rs ≤ length (contents es rs)
good_length es [] good = omega arith
good_length es (r ∷ rs) good =
    let ih = good_length es rs (λ t m. good t (inr m)) in
    let g = good r (inl refl) in
    let lo = g.low in
    let hi = g.high in
    let a = span_length es r.first (suc r.last) (omega arith) g.inside in
    let b = length-append (span es r.first (suc r.last)) (contents es rs) in
    omega arith

others-length : (i : ℕ) (rs : List Range) → i < length rs → suc (length (others i rs)) ≡ length rs
unfolding others
others-length i rs h =
    let l = get_or rs (length rs - 1) no_range in
    let n = length-set rs i l in
    let a = length-take-le (length rs - 1) (set rs i l) (omega arith) in
    omega arith

step_length :
    (es : List Entry) (rs : List Range) (ne : 0 < length rs) (good : (r : Range) → r ∈ rs → Good es r)
    → length (contents es rs) ≡ suc (length (contents es (next es rs ne good)))
step_length es rs ne good =
    let a = next_count es rs ne good (λ x. true) in
    let b = count-all (contents es rs) in
    let c = count-all (contents es (next es rs ne good)) in
    omega arith

run_exact :
    (es : List Entry) (k : ℕ) (rs : List Range) → ((r : Range) → r ∈ rs → Good es r) → length (contents es rs) ≤ k
    → (run k es rs).looks + length rs ≡ length (contents es rs)
unfolding offering
run_exact es zero rs good h = let a = good_length es rs good in omega arith
run_exact es (suc zero) [] good h = omega arith
run_exact es (suc zero) (r ∷ rs) good h = let a = good_length es (r ∷ rs) good in omega arith
run_exact es (suc (suc k)) [] good h = omega arith
run_exact es (suc (suc k)) (r ∷ rs) good h =
    let n = next es (r ∷ rs) (omega arith) good in
    let a = step_length es (r ∷ rs) (omega arith) good in
    let ih = run_exact es (suc k) n (next_good es (r ∷ rs) (omega arith) good) (omega arith) in
    let b = others-length (best (bests es (r ∷ rs))) (r ∷ rs) (index es (r ∷ rs) (omega arith) good) in
    let c = length-append (others (best (bests es (r ∷ rs))) (r ∷ rs)) (parts es (best_open es (r ∷ rs))) in
    omega arith

looks_exact : (es : List Entry) (p : List ℕ) (k : ℕ) → rising es ≡ true → length (matches p es) ≤ k
    → (machine es p k).looks ≡ length (matches p es)
unfolding machine
looks_exact es p k r h =
    let e = open_contents es (start es p r) (stop es p r) ∙ start_span es p r in
    let a = ap length e in
    let b = run_exact es k (open_range es (start es p r) (stop es p r))
    (open_good es (start es p r) (stop es p r) (stop_fits es p r)) (omega arith) in
    omega arith

-- what is offered are positions of es
run_inside :
    (es : List Entry) (k : ℕ) (rs : List Range) → ((r : Range) → r ∈ rs → Good es r) → (i : ℕ)
    → i ∈ (run k es rs).offered
    → i < length es
unfolding offering
run_inside es zero rs good i m = absurd m
run_inside es (suc k) [] good i m = absurd m
run_inside es (suc zero) (r ∷ rs) good i (inl e) =
    let g = best_good es (r ∷ rs) (omega arith) good in omega (arith, g.high, g.inside)
run_inside es (suc zero) (r ∷ rs) good i (inr m) = absurd m
run_inside es (suc (suc k)) (r ∷ rs) good i (inl e) =
    let g = best_good es (r ∷ rs) (omega arith) good in omega (arith, g.high, g.inside)
run_inside es (suc (suc k)) (r ∷ rs) good i (inr m) =
    run_inside es (suc k) (next es (r ∷ rs) (omega arith) good) (next_good es (r ∷ rs) (omega arith) good) i m

pub machine-inside :
    (es : List Entry) (p : List ℕ) (k : ℕ) → rising es ≡ true → (i : ℕ) → i ∈ (machine es p k).offered → i < length es
unfolding machine
machine-inside es p k r i m =
    run_inside es k (open_range es (start es p r) (stop es p r))
    (open_good es (start es p r) (stop es p r) (stop_fits es p r)) i m

pub machine_promise : (es : List Entry) (p : List ℕ) (k : ℕ) → rising es ≡ true → MachineOffers es p k
machine_promise es p k r =
    record { completes = machine_offers_lem es p r k; at_most = looks_most es p k; exactly = looks_exact es p k r }
