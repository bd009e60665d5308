-- What stands under the siblings of a group, put from the last to the first: the invariant, a turn and the end.
use Prim.Native.Nat.{◌*◌, ◌+◌, ◌-◌, ◌<◌, ◌≤◌, suc, zero, ℕ}
use mathlib.Core.Path.{◌∙◌, ◌≡◌, ap, refl, sym}
use mathlib.Core.Logic.{◌⊎◌, inl, inr}
use mathlib.Core.Bool.{Bool, false, true}
use mathlib.Core.List.{List, [], ◌++◌, ◌∷◌, append_assoc, append-nil, map}
use lib.ListN.{get_or-append, drop, drop_of_length-le, get_or, length, length-append, set, take}
use lib.Seq.{drop-cons, get_or-take, length-sets, length-take-le, set_at, set_comm, sets, take_all, take-suc}
use native.Mathlib.Nat.{add-zero, not-suc-le-zero}
use native.Mathlib.Omega.{arith}
use Rattle.octets.specs.Lists.{◌∈◌, concat_map}
use Rattle.octets.proofs.Lists.{concat-append, in_map}
use Rattle.entries.specs.Entries.{Entry}
use Rattle.entries.specs.Names.{longest_name}
use Rattle.trie.specs.Trie.{by_first, used_up}
use Rattle.book_table.specs.Table.{Table, entries}
use Rattle.book_table.proofs.Rows.{entries-length}
use Rattle.trie_write_nodes.specs.Nodes.{Finished, Finishing, group_own_bytes, put_if}
use Rattle.trie_write_runs.specs.Runs.{Each, no_run}
use Rattle.trie_write_rows.specs.Rows.{Good, Shared, SiblingRuns, set_at_depth, set_of}
use Rattle.trie_write.specs.Writing.{Groupable, Grouped, under_at}
use Rattle.trie_write.proofs.Shown.{fill, filled_falls, filled_sound, group_runs, in_group_lem, run-deep, run_falls}
use Rattle.trie_write.proofs.Shown.{run_shared, under_run}
use Rattle.trie_write_runs.specs.declared.Run.{Run}

-- stores behind and before
set-sets : (l : List ℕ) (i j x : ℕ) (b : List ℕ) → i < j → set (sets l j b) i x ≡ sets (set l i x) j b
set-sets l i j x [] h = refl
set-sets l i j x (y ∷ b) h = set-sets (set l j y) i (suc j) x b (omega arith)
    ∙ ap (λ m. sets m (suc j) b) (set_comm l j i y x (λ e. omega arith))

sets_swap : (l : List ℕ) (i j : ℕ) (a b : List ℕ) → i + length a ≡ j → sets (sets l j b) i a ≡ sets l i (a ++ b)
sets_swap l i j [] b h = let q : i ≡ j = omega arith in rw q
sets_swap l i j (x ∷ a) b h =
    rw (set-sets l i j x b (omega arith)) (sets_swap (set l i x) (suc i) j a b (omega arith))

put_back : (put : Bool) (l : List ℕ) (i j : ℕ) (a b : List ℕ) → (put ≡ true → i + length a ≡ j)
    → put_if put (put_if put l j b) i a ≡ put_if put l i (a ++ b)
unfolding put_if
put_back true l i j a b h = sets_swap l i j a b (h refl)
put_back false l i j a b h = refl

put_none : (put : Bool) (l : List ℕ) (i : ℕ) → put_if put l i [] ≡ l
unfolding put_if
put_none true l i = refl
put_none false l i = refl

pub length_put : (put : Bool) (l : List ℕ) (i : ℕ) (a : List ℕ) → length (put_if put l i a) ≡ length l
unfolding put_if
length_put true l i a = length-sets l i a
length_put false l i a = refl

-- lists of runs
each_at : (P : Run → Type 0) (rs : List Run) (i : ℕ) → Each P rs → i < length rs → P (get_or rs i no_run)
each_at P [] i e h = absurd (not-suc-le-zero h)
each_at P (r ∷ rs) zero e h = e.0
each_at P (r ∷ rs) (suc i) e h = each_at P rs i e.1 (omega arith)

get_or_in : (rs : List Run) (i : ℕ) → i < length rs → get_or rs i no_run ∈ rs
get_or_in [] i h = absurd (not-suc-le-zero h)
get_or_in (r ∷ rs) zero h = inl refl
get_or_in (r ∷ rs) (suc i) h = inr (get_or_in rs i (omega arith))

-- The groups behind index i of the runs L are put, and M has their lengths filled in.
pub record RunsGoing (es : List Entry) (d total back : ℕ) (put : Bool) (dst₀ : List ℕ) (L : List Run) (dst : List ℕ)
    (M : List Run) (b i : ℕ) : Type 0 where
  pub upto : i ≤ length L
  pub same : length dst ≡ length dst₀
  pub filled : M ≡ take i L ++ map (fill es d) (drop i L)
  pub end : b + length (concat_map (under_run es d) (take i L)) ≡ back + length (concat_map (under_run es d) L)
  pub bytes :
      put_if put dst (total - (back + length (concat_map (under_run es d) L))) (concat_map (under_run es d) (take i L))
      ≡ put_if put dst₀ (total - (back + length (concat_map (under_run es d) L))) (concat_map (under_run es d) L)

pub going_start :
    {es : List Entry} {d total back : ℕ} {put : Bool} {dst : List ℕ} {L : List Run} {i : ℕ} → i ≡ length L
    → RunsGoing es d total back put dst L dst L back i
going_start {L = L} {i} e =
    let t : take i L ≡ L = take_all i L (omega arith) in
    record {
      upto = omega arith;
      same = refl;
      filled = rw (t, drop_of_length-le L {i = i} (omega arith), append-nil L);
      end = rw t;
      bytes = rw t;
    }

module _
    {u m sc : List ℕ} {lo hi d s size total back : ℕ} {put : Bool}
    (ready : Groupable u m sc lo hi d s size total back put)
    (n : used_up 0 (set_at_depth (entries u m sc) lo hi d) ≡ false) {L : List Run} (sp : SiblingRuns (entries u m sc) d lo hi L)
  where
    abbrev es : List Entry
    es = entries u m sc

    abbrev U : Run → List ℕ
    U = under_run (entries u m sc) d

    table : Table u m sc
    table = ready.able.table

    shared : Shared es d lo hi
    shared = ready.able.shared

    whole : under_at es lo hi d s ≡ group_own_bytes u d s (map (fill es d) L) ++ concat_map U L
    whole = group_runs u m sc table lo hi d shared L sp s n

    whole_length : length (under_at es lo hi d s) ≡ length (group_own_bytes u d s (map (fill es d) L)) + length
        (concat_map U L)
    whole_length = ap length whole ∙ length-append (group_own_bytes u d s (map (fill es d) L)) (concat_map U L)

    module _ {dst₀ dst : List ℕ} {M : List Run} {b i : ℕ} (v : RunsGoing es d total back put dst₀ L dst M b i)
        (fits : size ≡ length dst₀) where
      -- a turn: the group of the run before index i
      module _ (more : 0 < i) where
        abbrev j : ℕ
        j = i - 1

        abbrev r : Run
        r = get_or M (i - 1) no_run

        j_low : j < length L
        j_low = omega (arith, v.upto)

        taken : length (take i L) ≡ i
        taken = length-take-le i L v.upto

        r_is : r ≡ get_or L j no_run
        r_is =
            ap (λ x. get_or x j no_run) v.filled
            ∙ get_or-append (take i L) (map (fill es d) (drop i L)) no_run j (omega (arith, taken))
            ∙ get_or-take i L j no_run (omega arith)

        r_good : Good es d lo hi r
        r_good = rw r_is (each_at (Good es d lo hi) L j sp.good j_low)

        r_in : set_of es d r ∈ by_first (set_at_depth es lo hi d)
        r_in = rw r_is (in_group_lem u m sc table lo hi d shared L sp (set_of es d (get_or L j no_run))
            (in_map (set_of es d) (get_or L j no_run) L (get_or_in L j j_low)))

        take_here : take i L ≡ take j L ++ (r ∷ [])
        take_here = let q : i ≡ suc j = omega arith in rw (r_is, ← (take-suc L j no_run j_low)) (ap (λ k. take k L) q)

        drop_here : drop j L ≡ r ∷ drop i L
        drop_here = let q : suc j ≡ i = omega arith in rw r_is (drop-cons L j no_run j_low
            ∙ ap (λ k. get_or L j no_run ∷ drop k L) q)

        under_here : concat_map U (take i L) ≡ concat_map U (take j L) ++ U r
        under_here = ap (concat_map U) take_here ∙ concat-append U (take j L) (r ∷ [])
            ∙ ap (λ x. concat_map U (take j L) ++ x) (append-nil (U r))

        under_length : length (concat_map U (take i L)) ≡ length (concat_map U (take j L)) + length (U r)
        under_length = ap length under_here ∙ length-append (concat_map U (take j L)) (U r)

        pub deep_low : d + r.len ≤ longest_name
        deep_low = run-deep u m sc table lo hi d shared r r_good r_in

        -- what the recursion falls by: the bytes left, then the rows
        pub child_falls : (longest_name - (d + r.len)) * 2048 + (r.hi - r.lo) < (longest_name - d) * 2048 + (hi - lo)
        child_falls = go (run_falls u m sc table lo hi d shared r r_good r_in n)
          where
            go : (0 < r.len) ⊎ (r.hi - r.lo < hi - lo)
                → (longest_name - (d + r.len)) * 2048 + (r.hi - r.lo) < (longest_name - d) * 2048 + (hi - lo)
            go (inl h) = omega (arith, deep_low, r_good.upto, shared.inside, table.few, entries-length u m sc)
            go (inr h) = omega (arith, deep_low)

        pub child_ready : Groupable u m sc r.lo r.hi (d + r.len) 0 (length dst) total b put
        child_ready =
            let e = v.end in let l = under_length in let w = whole_length in
            record {
              able =
                  record {
                    table = table;
                    named = ready.able.named;
                    upto = omega (arith, entries-length u m sc, r_good.upto, shared.inside);
                    shared = run_shared u m sc table lo hi d shared r r_good r_in;
                  };
              low = omega (arith, ready.low);
              room = λ t. omega (arith, ready.room t);
              inside = λ t. omega (arith, ready.inside t, v.same, fits);
            }

        -- the length filled in
        pub filled_low : {k : ℕ} {out : List ℕ} → Grouped es r.lo r.hi (d + r.len) 0 dst out total b put k
            → k - b < 16777216
        filled_low z = omega (arith, z.end, under_length, v.end, whole_length, ready.low)

        pub going_turn :
            {k : ℕ} {out : List ℕ} {f : Run} {N : List Run}
            → Grouped es r.lo r.hi (d + r.len) 0 dst out total b put k
            → f ≡ record { lo = r.lo; hi = r.hi; high = r.high; len = r.len; under = k - b } → N ≡ set M j f
            → RunsGoing es d total back put dst₀ L out N k j
        going_turn {k} {out} {f} z e o =
            let x = v.end in let l = under_length in let w = whole_length in let y = z.end in
            let ku : k - b ≡ length (U r) = omega arith in
            let ff : f ≡ fill es d r = e ∙ ap
            (λ q. record { lo = r.lo; hi = r.hi; high = r.high; len = r.len; under = q }) ku in
            let tl : length (take j L) ≡ j = length-take-le j L (omega (arith, j_low)) in
            record {
              upto = omega (arith, j_low);
              same = ap length z.bytes ∙ length_put put dst (total - k) (U r) ∙ v.same;
              filled = o ∙ rw (
                v.filled,
                take_here,
                append_assoc (take j L) (r
                    ∷ []) (map (fill es d) (drop i L)),
                set_at (take j L) r (map (fill es d) (drop i L)) f j tl,
                drop_here,
                ff,
              );
              end = omega arith;
              bytes = rw z.bytes (put_back put dst (total - (back + length (concat_map U L))) (total - k)
                  (concat_map U (take j L)) (U r) (λ t. let h = ready.room t in omega arith)
                  ∙ rw (← under_here) v.bytes);
            }

      -- the end: the group's own nodes in front
      module _ (done : i ≤ 0) where
        i_zero : i ≡ 0
        i_zero = omega arith

        filled_all : M ≡ map (fill es d) L
        filled_all = rw i_zero at v.filled

        b_is : b ≡ back + length (concat_map U L)
        b_is = let q : b + length (concat_map U (take 0 L)) ≡ back + length (concat_map U L) = rw i_zero at v.end in
            omega (arith, q)

        dst_is : dst ≡ put_if put dst₀ (total - b) (concat_map U L)
        dst_is =
            let q : put_if put dst (total - (back + length (concat_map U L))) [] ≡ put_if put dst₀
            (total - (back + length (concat_map U L))) (concat_map U L) = rw i_zero at v.bytes in
            sym (put_none put dst (total - (back + length (concat_map U L)))) ∙ rw b_is q

        pub finish_ready : Finishing u d M s (length dst) total b put
        finish_ready =
            let w = whole_length in let q = b_is in
            record {
              able = record {
                each = rw filled_all (filled_sound u m sc table lo hi d shared L sp);
                falls = rw filled_all (filled_falls u m sc table lo hi d shared L sp);
              };
              low = omega (arith, ready.low);
              room = λ t. let x = ready.room t in rw filled_all (omega arith);
              inside = λ t. omega (arith, ready.inside t, v.same, fits);
            }

        pub grouped : {out : List ℕ} {k : ℕ} → Finished u d M s dst out total b put k
            → Grouped es lo hi d s dst₀ out total back put k
        grouped {out} {k} f =
            let w = whole_length in let q = b_is in
            let e : k ≡ b + length (group_own_bytes u d s (map (fill es d) L)) = rw filled_all at f.end in
            let y : out ≡ put_if put dst (total - k) (group_own_bytes u d s (map (fill es d) L)) = rw filled_all at
            f.bytes
            in
            record {
              end = omega arith;
              bytes = y ∙ rw (dst_is, whole) (put_back put dst₀ (total - k) (total - b)
                  (group_own_bytes u d s (map (fill es d) L)) (concat_map U L) (λ t. let h = ready.room t in
                  omega arith));
            }

pub group_none : (es : List Entry) (lo hi d s : ℕ) (dst : List ℕ) (total back : ℕ) (put : Bool)
    → used_up 0 (set_at_depth es lo hi d) ≡ true → Grouped es lo hi d s dst dst total back put back
unfolding under_at
group_none es lo hi d s dst total back put t =
    let e : under_at es lo hi d s ≡ [] = rw (t, under_at) in
    record { end = rw e (sym (add-zero back)); bytes = rw e (sym (put_none put dst (total - back))) }
