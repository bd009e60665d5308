-- The bytes of a group, from the runs of its siblings.
use Prim.Native.Nat.{◌*◌, ◌+◌, ◌-◌, ◌<◌, ◌≤◌, suc, zero, ℕ}
use mathlib.Core.Path.{◌∙◌, ◌≡◌, ap, refl, sym}
use mathlib.Core.Logic.{◌⊎◌, inl, inr}
use mathlib.Core.Bool.{Bool, false, false≢true, true}
use mathlib.Core.List.{List, [], ◌++◌, ◌∷◌, map}
use lib.Dec.{eqb, ltb}
use lib.ListN.{drop, get_or, length, length-append, length-drop, take}
use lib.Seq.{drop-drop, slice, take-add, take-append_seam, take-take}
use native.Mathlib.Omega.{arith}
use borrow.Author.Tests.{eq-eqb, eqb-false, eqb-true, ltb-false, ltb-true, ne_eqb}
use Rattle.octets.specs.Lists.{◌∈◌, concat_map, sort_by}
use Rattle.octets.specs.Octets.{below}
use Rattle.octets.proofs.Lists.{sort_in, sort-map}
use Rattle.octets.proofs.Tests.{by_test}
use Rattle.entries.specs.Entries.{Entry, at, entry}
use Rattle.entries.proofs.BestList.{different-rising}
use Rattle.entries.specs.Names.{longest_name}
use Rattle.trie.specs.Trie.{Node, by_first, first_score, group_bytes, group_of, is_last, label_of, levels, node_bytes, node_of}
use Rattle.trie.specs.Trie.{other_bytes, remains, siblings, stands_before, used_up}
use Rattle.trie.proofs.Sets.{by_first-run, label_progress, label_short, label_split, stripped}
use Rattle.trie.proofs.Trie.{node_inner, node_label, node_leaf, node_score, set-different}
use Rattle.book_table.specs.Table.{Table, entries}
use Rattle.book_table.proofs.Rows.{entries-length, row_length_lem}
use Rattle.trie_write_runs.specs.Fields.{after, first_fields, plain_fields}
use Rattle.trie_write_nodes.specs.Nodes.{RunFits, group_own_bytes, nodes_bytes, nodes_length, one_node, run_label}
use Rattle.trie_write_runs.specs.Runs.{Each, Falls, ends_here, first_high}
use Rattle.trie_write_nodes.proofs.Loops.{length-nodes_bytes}
use Rattle.trie_write_rows.specs.Rows.{Good, Shared, SiblingRuns, higher, rest_at, set_at_depth, set_of}
use Rattle.trie_write_rows.proofs.Laws.{rest_part, row_facts, set_cons, shared_rising}
use Rattle.trie_laws.proofs.Keys.{by_first_ordered}
use Rattle.trie_write_rows.proofs.Siblings.{sort-higher}
use Rattle.trie_write_rows.proofs.Splitting.{set_member}
use Rattle.trie_write.specs.Writing.{under_at}
use Rattle.trie_write.proofs.Fuel.{Enough, enough_more, group_fuel, remains-some, set_enough}
use Rattle.trie_write_runs.specs.declared.NodeFields.{NodeFields}
use Rattle.trie_write_runs.specs.declared.Run.{Run}
use Rattle.octets.proofs.Order.{below-append}

-- a node and the run that shows it
pub record RunShows (names : List ℕ) (d : ℕ) (x : Node) (r : Run) : Type 0 where
  pub label : x.label ≡ run_label names d r
  pub long : length x.label ≡ r.len
  pub score : x.score ≡ r.high
  pub under : length x.under ≡ r.under

abbrev pub AllShow : List ℕ → ℕ → List Node → List Run → Type 0
AllShow names d [] [] = Unit {0}
AllShow names d [] (r ∷ rs) = ⊥
AllShow names d (x ∷ xs) [] = ⊥
AllShow names d (x ∷ xs) (r ∷ rs) = RunShows names d x r × AllShow names d xs rs

first_score_lem : (names : List ℕ) (d : ℕ) (xs : List Node) (rs : List Run) → AllShow names d xs rs
    → first_score xs ≡ first_high rs
first_score_lem names d [] [] a = refl
first_score_lem names d [] (r ∷ rs) a = absurd a
first_score_lem names d (x ∷ xs) [] a = absurd a
first_score_lem names d (x ∷ xs) (r ∷ rs) a = a.0.score

last_same : (names : List ℕ) (d : ℕ) (xs : List Node) (rs : List Run) → AllShow names d xs rs → is_last xs ≡ ends_here rs
last_same names d [] [] a = refl
last_same names d [] (r ∷ rs) a = absurd a
last_same names d (x ∷ xs) [] a = absurd a
last_same names d (x ∷ xs) (r ∷ rs) a = refl

siblings-shown : (names : List ℕ) (d : ℕ) (f : NodeFields) (xs : List Node) (rs : List Run) → AllShow names d xs rs
    → siblings f.score f.child f.size xs ≡ nodes_bytes names d f rs
unfolding after node_bytes one_node
siblings-shown names d f [] [] a = refl
siblings-shown names d f [] (r ∷ rs) a = absurd a
siblings-shown names d f (x ∷ xs) [] a = absurd a
siblings-shown names d f (x ∷ xs) (r ∷ rs) a =
    let ih = siblings-shown names d (after r f (first_high rs)) xs rs a.1 in
    rw (
      ← ih,
      a.0.under,
      a.0.long,
      a.0.label,
      a.0.score,
      first_score_lem names d xs rs a.1,
      last_same names d xs rs a.1,
    )

group_shown : (names : List ℕ) (d s : ℕ) (xs : List Node) (rs : List Run) → AllShow names d xs rs
    → Each (RunFits (length names) d) rs → group_bytes s xs ≡ group_own_bytes names d s rs
    ++ concat_map (λ (x : Node). x.under) xs
unfolding group_bytes group_own_bytes other_bytes
group_shown names d s xs rs a e =
    let o : length (siblings s 0 0 xs) ≡ nodes_length (plain_fields s) rs = ap length
    (siblings-shown names d (plain_fields s) xs rs a) ∙ length-nodes_bytes names d (plain_fields s) rs e in
    rw (o, siblings-shown names d (first_fields s (nodes_length (plain_fields s) rs)) xs rs a)

-- the runs of a split
abbrev pub under_run : List Entry → ℕ → Run → List ℕ
under_run es d r = under_at es r.lo r.hi (d + r.len) 0

abbrev pub fill : List Entry → ℕ → Run → Run
fill es d r = record { lo = r.lo; hi = r.hi; high = r.high; len = r.len; under = length (under_run es d r) }

remains_more : (k j : ℕ) (es : List Entry) → remains k (remains j es) ≡ remains (j + k) es
remains_more k j [] = refl
remains_more k j (e ∷ es) = let q = drop-drop k j e.name in let ih = remains_more k j es in
    λ i. entry (q i) e.score ∷ ih i

used_remains : (k : ℕ) (s : List Entry) → ((e : Entry) → e ∈ s → k ≤ length e.name)
    → used_up k s ≡ used_up 0 (remains k s)
used_remains k [] h = refl
used_remains k (e ∷ []) h = go (eqb (length e.name) k) refl
  where
    go : (b : Bool) → eqb (length e.name) k ≡ b → b ≡ eqb (length (drop k e.name)) 0
    go true t = let z = eqb-true (length e.name) k t in let w = length-drop k e.name in
        sym (eq-eqb (length (drop k e.name)) 0 (omega arith))
    go false t = let z = eqb-false (length e.name) k t in let w = length-drop k e.name in
        let l = h e (inl refl) in sym (ne_eqb (length (drop k e.name)) 0 (λ y. z (omega arith)))
used_remains k (e ∷ f ∷ s) h = refl

set_short : (u m sc : List ℕ) → Table u m sc → (lo hi d : ℕ) → Shared (entries u m sc) d lo hi
    → Enough levels (set_at_depth (entries u m sc) lo hi d)
set_short u m sc z lo hi d s =
    let es = entries u m sc in
    record {
      short = λ e q. short e (set_member es d (hi - lo) lo hi (omega (arith, s.order)) s.inside e q);
      apart = different-rising (set_at_depth es lo hi d) (shared_rising es d lo hi s);
    }
  where
    short : (e : Entry) → (p : ℕ) × (lo ≤ p) × (p < hi) × (e ≡ stripped d (at (entries u m sc) p))
        → length e.name < levels
    short e q =
        let p : q.0 < length m = omega (arith, q.2, s.inside, entries-length u m sc) in
        let a = row_length_lem u m sc z q.0 p in
        let b = z.short q.0 p in
        rw (ap (λ x. x.name) q.3) (omega (arith, length-drop d (at (entries u m sc) q.0).name))

label_take : (s : List Entry) (e : Entry) → e ∈ s → take (length (label_of s)) e.name ≡ label_of s
label_take s e m = ap (take (length (label_of s))) (label_split s e m)
    ∙ take-append_seam (label_of s) (drop (length (label_of s)) e.name)

label_within : (s : List Entry) (e : Entry) → e ∈ s → length (label_of s) ≤ length e.name
label_within s e m = let a = ap length (label_split s e m) in
    let b = length-append (label_of s) (drop (length (label_of s)) e.name) in omega arith

set_has : (es : List Entry) (d k lo hi p : ℕ) → lo + k ≡ p → p < hi → hi ≤ length es
    → entry (rest_at es d p) (at es p).score ∈ set_at_depth es lo hi d
set_has es d zero lo hi p e h l = let q : p ≡ lo = omega arith in rw (q, set_cons es lo hi d (omega arith) l) (inl refl)
set_has es d (suc k) lo hi p e h l = rw (set_cons es lo hi d (omega arith) l)
    (inr (set_has es d k (suc lo) hi p (omega arith) h l))

below-same-two : {a b c d : List ℕ} → a ≡ c → b ≡ d → below a b ≡ below c d
below-same-two p q = λ i. below (p i) (q i)

module _ (u m sc : List ℕ) (z : Table u m sc) (lo hi d : ℕ) (sh : Shared (entries u m sc) d lo hi) where
  abbrev es : List Entry
  es = entries u m sc

  abbrev whole : List Entry
  whole = set_at_depth es lo hi d

  module _ (r : Run) (g : Good es d lo hi r) (q : set_of es d r ∈ by_first whole) where
    abbrev own : List Entry
    own = set_of es d r

    first_in_lem : entry (rest_at es d r.lo) (at es r.lo).score ∈ own
    first_in_lem = let a = g.upto in let b = sh.inside in
        rw (set_cons es r.lo r.hi d g.some (omega arith)) (inl refl)

    row_low : r.lo < length m
    row_low = let n = entries-length u m sc in let a = g.upto in let b = sh.inside in let c = g.some in omega arith

    row : (d ≤ get_or m r.lo 0) × (get_or m r.lo 0 ≤ longest_name) × (r.lo * longest_name + longest_name ≤ length u)
    row = row_facts u m sc z r.lo d row_low (let a = g.some in let b = g.upto in
        sh.long r.lo g.from (omega arith))

    len_low : r.len ≤ get_or m r.lo 0 - d
    len_low =
        let a = label_within own (entry (rest_at es d r.lo) (at es r.lo).score) first_in_lem in
        let b = length-drop d (at es r.lo).name in
        let c = row_length_lem u m sc z r.lo row_low in
        rw g.len (omega arith)

    pub run-deep : d + r.len ≤ longest_name
    run-deep = let a = len_low in omega (arith, row.0, row.1)

    label_shown : label_of own ≡ run_label u d r
    unfolding run_label
    label_shown =
        let a = label_take own (entry (rest_at es d r.lo) (at es r.lo).score) first_in_lem in
        let l = len_low in
        let e : (r.lo * longest_name + get_or m r.lo 0) - (r.lo * longest_name + d) ≡ get_or m r.lo 0 - d = omega
        arith in
        let p = rest_part u m sc z r.lo d row_low row.0 in
        sym a ∙ rw (← p, ← g.len, e) (take-take r.len (get_or m r.lo 0 - d) (drop (r.lo * longest_name + d) u) l)

    run_sound : RunFits (length u) d r
    run_sound = let a = len_low in record {
      short = let b = label_short own in rw g.len (omega arith);
      inside = omega (arith, row.0, row.1, row.2);
    }

    deeper : set_at_depth es r.lo r.hi (d + r.len) ≡ remains (length (label_of own)) own
    deeper = rw g.len (sym (remains_more (length (label_of own)) d (slice r.lo r.hi es)))

    used_same : used_up (length (label_of own)) own ≡ used_up 0 (set_at_depth es r.lo r.hi (d + r.len))
    used_same = used_remains (length (label_of own)) own (label_within own) ∙ ap (used_up 0) (sym deeper)

    under_same : (node_of (group_of longest_name 0) own).under ≡ under_run es d r
    unfolding under_at
    under_same =
        by_test (used_up (length (label_of own)) own)
        (λ t. node_leaf (group_of longest_name 0) own t ∙ sym (rw (sym used_same ∙ t, under_at)))
        (λ t.
        let k = set_enough longest_name whole own (set_short u m sc z lo hi d sh) q t in
        node_inner (group_of longest_name 0) own t
        ∙ group_fuel longest_name levels 0 (remains (length (label_of own)) own) (remains-some whole own q) k
        (enough_more longest_name levels _ (omega arith) k)
        ∙ sym (rw (sym used_same ∙ t, under_at) (ap (group_of levels 0) deeper)))

    run_shows : RunShows u d (node_of (group_of longest_name 0) own) (fill es d r)
    unfolding run_label
    run_shows =
        record {
          label = node_label (group_of longest_name 0) own ∙ label_shown;
          long = ap length (node_label (group_of longest_name 0) own) ∙ sym g.len;
          score = node_score (group_of longest_name 0) own ∙ sym g.high;
          under = ap length under_same;
        }

    -- either the label has a byte, or the range is smaller
    pub run_falls : used_up 0 whole ≡ false → (0 < r.len) ⊎ (r.hi - r.lo < hi - lo)
    run_falls n =
        by_test (ltb (r.hi - r.lo) (hi - lo)) (λ t. inr (ltb-true (r.hi - r.lo) (hi - lo) t))
        (λ t. inl (progress (ltb-false (r.hi - r.lo) (hi - lo) t)))
      where
        progress : hi - lo ≤ r.hi - r.lo → 0 < r.len
        progress h =
            let a = g.from in let b = g.upto in let c = g.some in
            let el : r.lo ≡ lo = omega arith in
            let eh : r.hi ≡ hi = omega arith in
            let same : own ≡ whole = rw (el, eh) in
            by_test (used_up (length (label_of own)) own)
            (λ t.
            let p : 0 ≡ length (label_of own) → ⊥ = λ y. false≢true (sym n ∙ ap (used_up 0) (sym same) ∙ rw (← y) at t) in
            by_test (ltb 0 (length (label_of own))) (λ k. rw g.len (ltb-true 0 (length (label_of own)) k))
            (λ k. let w : length (label_of own) ≤ 0 = ltb-false 0 (length (label_of own)) k in
            absurd (p (omega arith))))
            (λ t. rw g.len (label_progress own (by_first-run whole own q)
            (set-different whole own (set_short u m sc z lo hi d sh).apart q) t))

    -- the rows of a run share their label too
    pub run_shared : Shared es (d + r.len) r.lo r.hi
    run_shared =
        let a = g.some in let b = g.upto in let c = sh.inside in
        record {
          order = omega arith;
          inside = omega arith;
          long = λ p h k. let f = in_own p h k in
              let w = label_within own (entry (rest_at es d p) (at es p).score) f in
              let y = length-drop d (at es p).name in let v = sh.long p (omega (arith, g.from)) (omega arith) in
              rw g.len (omega arith);
          alike = λ p h k. front p h k ∙ sym (front r.lo (omega arith) a);
          rises = λ p h k. below_rest p h k;
        }
      where
        in_own : (p : ℕ) → r.lo ≤ p → p < r.hi → entry (rest_at es d p) (at es p).score ∈ own
        in_own p h k = let b = g.upto in let c = sh.inside in
            set_has es d (p - r.lo) r.lo r.hi p (omega arith) k (omega arith)

        front : (p : ℕ) → r.lo ≤ p → p < r.hi → take (d + r.len) (at es p).name ≡ take d (at es lo).name
            ++ label_of own
        front p h k =
            let b = g.upto in let f = g.from in
            take-add d r.len (at es p).name
            ∙ rw (sh.alike p (omega arith) (omega arith), g.len)
            (ap (λ w. take d (at es lo).name ++ w) (label_take own (entry (rest_at es d p) (at es p).score)
            (in_own p h k)))

        below_rest : (p : ℕ) → r.lo ≤ p → suc p < r.hi
            → below (rest_at es (d + r.len) p) (rest_at es (d + r.len) (suc p)) ≡ true
        below_rest p h k =
            let b = g.upto in let f = g.from in
            let x = label_split own (entry (rest_at es d p) (at es p).score) (in_own p h (omega arith)) in
            let y = label_split own (entry (rest_at es d (suc p)) (at es (suc p)).score)
            (in_own (suc p) (omega arith) k) in
            let o : below (rest_at es d p) (rest_at es d (suc p)) ≡ true = sh.rises p (omega arith) (omega arith) in
            rw (
              g.len,
              ← (drop-drop (length (label_of own)) d (at es p).name),
              ← (drop-drop (length (label_of own)) d (at es (suc p)).name),
            )
            (sym (below-append (label_of own) (drop (length (label_of own)) (rest_at es d p))
            (drop (length (label_of own)) (rest_at es d (suc p)))) ∙ sym (below-same-two x y) ∙ o)

  module _ (L : List Run) (sp : SiblingRuns es d lo hi L) where
    pub in_group_lem : (t : List Entry) → t ∈ map (set_of es d) L → t ∈ by_first whole
    in_group_lem t q = sort_in higher t (by_first whole) (rw sp.sets at q)

    shows_all : (rs : List Run) → Each (Good es d lo hi) rs
        → ((t : List Entry) → t ∈ map (set_of es d) rs → t ∈ by_first whole)
        → AllShow u d (map (node_of (group_of longest_name 0)) (map (set_of es d) rs)) (map (fill es d) rs)
    shows_all [] e h = tt
    shows_all (r ∷ rs) e h = (
      run_shows r e.0 (h (set_of es d r) (inl refl)),
      shows_all rs e.1 (λ t q. h t (inr q)),
    )

    sound_all : (rs : List Run) → Each (Good es d lo hi) rs
        → ((t : List Entry) → t ∈ map (set_of es d) rs → t ∈ by_first whole)
        → Each (RunFits (length u) d) (map (fill es d) rs)
    sound_all [] e h = tt
    sound_all (r ∷ rs) e h =
        let s = run_sound r e.0 (h (set_of es d r) (inl refl)) in
        (record { short = s.short; inside = s.inside }, sound_all rs e.1 (λ t q. h t (inr q)))

    unders_all : (rs : List Run) → Each (Good es d lo hi) rs
        → ((t : List Entry) → t ∈ map (set_of es d) rs → t ∈ by_first whole)
        → concat_map (λ (x : Node). x.under) (map (node_of (group_of longest_name 0)) (map (set_of es d) rs)) ≡ concat_map
        (under_run es d) rs
    unders_all [] e h = refl
    unders_all (r ∷ rs) e h = rw (
      under_same r e.0 (h (set_of es d r) (inl refl)),
      unders_all rs e.1 (λ t q. h t (inr q)),
    )

    falls_fill : (rs : List Run) → Falls rs → Falls (map (fill es d) rs)
    falls_fill [] f = tt
    falls_fill (r ∷ []) f = (omega arith, tt)
    falls_fill (r ∷ q ∷ rs) f = (f.0, falls_fill (q ∷ rs) f.1)

    pub filled_sound : Each (RunFits (length u) d) (map (fill es d) L)
    filled_sound = sound_all L sp.good in_group_lem

    pub filled_falls : Falls (map (fill es d) L)
    filled_falls = falls_fill L sp.falls

    pub group_runs : (s : ℕ) → used_up 0 whole ≡ false → under_at es lo hi d s ≡ group_own_bytes u d s (map (fill es d) L)
        ++ concat_map (under_run es d) L
    unfolding under_at node_of
    group_runs s n =
        let f = node_of (group_of longest_name 0) in
        let o : sort_by stands_before (map f (by_first whole)) ≡ map f (map (set_of es d) L) =
        sym (sort-map f stands_before (by_first whole))
        ∙ ap (map f) (sort-higher (by_first whole) (by_first_ordered whole (shared_rising es d lo hi sh))
        (by_first-run whole) ∙ sym sp.sets)
        in
        rw (n, under_at)
        (ap (group_bytes s) o
        ∙ group_shown u d s (map f (map (set_of es d) L)) (map (fill es d) L) (shows_all L sp.good in_group_lem)
        filled_sound
        ∙ ap (λ x. group_own_bytes u d s (map (fill es d) L) ++ x) (unders_all L sp.good in_group_lem))
