-- `trie_calls::write_trie` meets its contract: a checked book's trie, or the refusal that applies.
-- No loop, so no invariant.
use mathlib.Core.Path.{◌≡◌}
use Rattle.std.specs.Prelude.{ℕ, Err, None, Result, Some}
use Rattle.std.proofs.lemmas.Result.{err_from_is_err_and}
use Rattle.answer.specs.declared.Refusal.{Refusal}
use Rattle.answer.specs.declared.Refusal.TheVariants as refusal
use Rattle.book_check.proofs.FromBook.{from_no_room, from_refused, from_whole}
use Rattle.trie.specs.Calls.{write_trie}
use Rattle.trie.specs.Trie.{trie_image}
use Rattle.trie_write.proofs.Told.{told_bytes, told_short}
use Rattle.trie_calls.proofs.write_trie.Goals as goal

pub returns-in_err-c : goal.returns-in_err-c
unfolding write_trie
returns-in_err-c c =
    let p = err_from_is_err_and c.from_residual.result c.from_residual.ensures.1 in
    rw (p.1, p.2) (from_refused trie_image c.in_err-c.ensures _)

pub returns-in_err-bytes : goal.returns-in_err-bytes
unfolding write_trie
returns-in_err-bytes c =
    let none : c.write.result ≡ None = rw c.in_err-bytes.was at c.ok_or.ensures.ok_part in
    let t = told_short c.write.ensures none in
    let said : ◌≡◌ {A = Result ℕ Refusal} (Err c.in_err-bytes.field-0.0) (Err refusal.TooShort) =
    rw none at c.in_err-bytes.ensures.value
    in
    let p = err_from_is_err_and c.from_residual-in_err-bytes.result c.from_residual-in_err-bytes.ensures.1 in
    let e : p.0 ≡ refusal.TooShort = cc in
    rw (p.1, e, t.1) (from_no_room trie_image c.in_ok-c.ensures c.book-held.ensures _ t.0)

pub returns : goal.returns
unfolding write_trie
returns c =
    let some : c.write.result ≡ Some c.in_ok-bytes.bytes = rw c.in_ok-bytes.was at c.ok_or.ensures.ok_part in
    let t = told_bytes c.write.ensures some in
    from_whole trie_image c.in_ok-c.ensures c.book-held.ensures _ _ c.len-entries.ensures.count t.0 t.1 t.2
