-- How long answer entries are.
use Prim.Native.Nat.{◌*◌, ◌+◌, ◌≤◌, ℕ}
use mathlib.Core.Path.{◌≡◌}
use mathlib.Core.Bool.{true}
use mathlib.Core.List.{List, [], ◌∷◌}
use lib.ListN.{length, length-append, length-take}
use native.Mathlib.Omega.{arith}
use Rattle.octets.specs.Lists.{all, concat_map}
use Rattle.octets.proofs.Coding.{length-be}
use Rattle.octets.proofs.Lists.{all_in, all_of, keep_in, sort_in, take_in}
use Rattle.octets.proofs.Tests.{and_true_both}
use Rattle.entries.specs.Completion.{begun, completion, matches}
use Rattle.entries.specs.Entries.{Entry, by_rank, outranks}
use Rattle.entries.specs.Names.{is_name}
use Rattle.entries.proofs.Valid.{name_length}
use Rattle.answer.specs.Answers.{entries_bytes, entry_bytes}

-- the bytes of answer entries
pub length-entry_bytes : (e : Entry) → length (entry_bytes e) ≡ 5 + length e.name
unfolding entry_bytes
length-entry_bytes e = rw (length-append, length-be) (omega arith)

pub entries_bytes_most : (es : List Entry) → all (λ e. is_name e.name) es ≡ true
    → length (entries_bytes es) ≤ 53 * length es
unfolding entries_bytes
entries_bytes_most [] h = omega arith
entries_bytes_most (e ∷ es) h =
    let a = and_true_both (is_name e.name) (all (λ f. is_name f.name) es) h in
    let n = name_length e.name a.0 in
    let l = length-entry_bytes e in
    let ih = entries_bytes_most es a.1 in
    rw (length-append (entry_bytes e) (concat_map entry_bytes es)) (omega arith)

-- the answer of a completion for k fits in 53 × k bytes
pub completion_fits : (es : List Entry) (p : List ℕ) (k : ℕ) → all (λ e. is_name e.name) es ≡ true
    → length (entries_bytes (completion es p k)) ≤ 53 * k
unfolding completion
completion_fits es p k h =
    let m =
    entries_bytes_most (completion es p k)
    (all_of (λ e. is_name e.name) (completion es p k)
    (λ e m. all_in (λ f. is_name f.name) e es h
    (keep_in (begun p) e es (sort_in outranks e (matches p es) (take_in k e (by_rank (matches p es)) m))).0))
    in
    let l = length-take k (by_rank (matches p es)) in
    omega arith
