-- The loop of `group` over its runs, and rows of which there is one.
use Prim.Native.Nat.{◌*◌, ◌+◌, ◌-◌, ◌<◌, ◌≤◌, ℕ}
use mathlib.Core.Path.{◌∙◌, ◌≡◌, ap, refl, sym}
use mathlib.Core.Bool.{Bool, false}
use mathlib.Core.List.{List}
use lib.ListN.{get_or, length, length-set, set, take}
use lib.Seq.{get_or-take, take-set-lt}
use native.Mathlib.Omega.{arith}
use Rattle.entries.specs.Entries.{Entry}
use Rattle.entries.specs.Names.{longest_name}
use Rattle.trie.specs.Trie.{used_up}
use Rattle.book_table.specs.Table.{entries}
use Rattle.trie_write_nodes.specs.Nodes.{Finished, Finishing}
use Rattle.trie_write_runs.specs.Runs.{RunsKept, first_runs, no_run}
use Rattle.trie_write_runs.proofs.Runs.{kept_length}
use Rattle.trie_write_rows.specs.Rows.{SiblingRuns, set_at_depth}
use Rattle.trie_write_rows.proofs.Laws.{used_not}
use Rattle.trie_write.specs.Writing.{Groupable, Grouped}
use Rattle.trie_write.proofs.Going.{RunsGoing, child_falls, child_ready, deep_low, filled_low, finish_ready}
use Rattle.trie_write.proofs.Going.{going_start, going_turn, grouped}
use Rattle.trie_write_runs.specs.declared.Run.{Run}

-- one row, or not
module _ {u m sc : List ℕ} {lo hi d s size total back : ℕ} {put : Bool}
    (ready : Groupable u m sc lo hi d s size total back put) where
  pub one_ready : hi - lo ≡ 1 → Groupable u m sc lo (lo + 1) d s size total back put
  one_ready e = let z : hi ≡ lo + 1 = omega arith in rw (← z) ready

  pub one_grouped :
      hi - lo ≡ 1 → {dst out : List ℕ} {r : ℕ} → Grouped (entries u m sc) lo (lo + 1) d s dst out total back put r
      → Grouped (entries u m sc) lo hi d s dst out total back put r
  one_grouped e g = let z : hi ≡ lo + 1 = omega arith in rw z g

  pub not_one : (hi - lo ≡ 1 → ⊥) → used_up 0 (set_at_depth (entries u m sc) lo hi d) ≡ false
  not_one e = sym (used_not (entries u m sc) lo hi d e ready.able.shared.order ready.able.shared.inside)

pub record Turning (es : List Entry) (d total back : ℕ) (put : Bool) (dst₀ : List ℕ) (rs₀ : List Run) (n : ℕ)
    (dst : List ℕ) (rs : List Run) (b i : ℕ) : Type 0 where
  pub long : length rs ≡ length rs₀
  pub going : RunsGoing es d total back put dst₀ (first_runs rs₀ n) dst (first_runs rs n) b i

pub turn_start :
    {es : List Entry} {d total back : ℕ} {put : Bool} {dst : List ℕ} {rs : List Run} {n : ℕ}
    → RunsKept rs n
    → Turning es d total back put dst rs n dst rs back n
turn_start k = record { long = refl; going = going_start (sym (kept_length k)) }

module _
    {u m sc : List ℕ} {lo hi d s size total back : ℕ} {put : Bool}
    (ready : Groupable u m sc lo hi d s size total back put)
    (n : used_up 0 (set_at_depth (entries u m sc) lo hi d) ≡ false) {rs₀ : List Run} {count : ℕ} (k : RunsKept rs₀ count)
    (sp : SiblingRuns (entries u m sc) d lo hi (first_runs rs₀ count)) {dst₀ dst : List ℕ} {rs : List Run}
    {b i : ℕ}
    (v : Turning (entries u m sc) d total back put dst₀ rs₀ count dst rs b i) (fits : size ≡ length dst₀)
  where
    module _ (more : 0 < i) where
      low : i - 1 < count
      low = omega (arith, v.going.upto, kept_length k)

      abbrev x : Run
      x = get_or rs (i - 1) no_run

      same : x ≡ get_or (first_runs rs count) (i - 1) no_run
      same = sym (get_or-take count rs (i - 1) no_run low)

      pub deep : d + x.len ≤ longest_name
      deep = rw same (deep_low ready n sp v.going fits more)

      pub under_falls : (longest_name - (d + x.len)) * 2048 + (x.hi - x.lo) < (longest_name - d) * 2048 + (hi - lo)
      under_falls = rw same (child_falls ready n sp v.going fits more)

      pub under_ready : Groupable u m sc x.lo x.hi (d + x.len) 0 (length dst) total b put
      under_ready = rw same (child_ready ready n sp v.going fits more)

      module _ {q : ℕ} {out : List ℕ}
          (g : Grouped (entries u m sc) x.lo x.hi (d + x.len) 0 dst out total b put q) where
        pub under_low : q - b < 16777216
        under_low = filled_low ready n sp v.going fits more (rw same at g)

        pub turn :
            (f : Run) {rs' : List Run} → f ≡ record {
              lo = x.lo;
              hi = x.hi;
              high = x.high;
              len = x.len;
              under = q - b;
            }
            → rs' ≡ set rs (i - 1) f
            → Turning (entries u m sc) d total back put dst₀ rs₀ count out rs' q (i - 1)
        turn f p o =
            record {
              long = rw o (length-set rs (i - 1) f) ∙ v.long;
              going =
                  going_turn ready n sp v.going fits more (rw same at g) (p ∙ rw same)
                  (ap (take count) o ∙ take-set-lt count rs (i - 1) f low);
            }

    module _ (done : i ≤ 0) where
      pub turn_ready : Finishing u d (first_runs rs count) s (length dst) total b put
      turn_ready = finish_ready ready n sp v.going fits done

      pub turn_end :
          {out : List ℕ} {q : ℕ} → Finished u d (first_runs rs count) s dst out total b put q
          → Grouped (entries u m sc) lo hi d s dst₀ out total back put q
      turn_end f = grouped ready n sp v.going fits done f
