-- A book never exceeds 55,559 bytes, and an answer entry 53.
use Prim.Native.Nat.{◌%◌, ◌*◌, ◌+◌, ◌≤◌, suc, ℕ}
use mathlib.Core.Path.{◌≡◌, refl}
use mathlib.Core.Logic.{inl, inr}
use mathlib.Core.Bool.{Bool, false, true}
use mathlib.Core.List.{List, [], ◌∷◌}
use lib.ListN.{length, length-append, length-drop}
use native.Mathlib.Omega.{arith}
use borrow.Author.Tests.{eqb-false, eqb-true}
use Rattle.octets.specs.Lists.{◌∈◌, ceil}
use Rattle.octets.specs.Octets.{common}
use Rattle.octets.proofs.Lists.{all_in, map_in}
use Rattle.octets.proofs.Tests.{by_test}
use Rattle.entries.specs.Entries.{Entry, max_entries, names, valid}
use Rattle.entries.specs.Names.{is_name, longest_name}
use Rattle.entries.proofs.Valid.{Valid, length-names, name_length, valid_of}
use Rattle.book.specs.Records.{bucket_head, bucket_size, record_of, records}
use Rattle.book.specs.declared.Layout.{Layout}
use Rattle.book.specs.Book.{block_size, buckets, image_in, records_at}
use Rattle.book.proofs.Reading.{image_length}

-- a head's record is at most 49 bytes and has an offset of 2, another's 50
record_length_lem :
    (heads : Bool) (i : ℕ) (prev w : List ℕ) → length w ≤ longest_name
    → length (record_of heads i prev w) + buckets heads (suc i) ≤ 50 + buckets heads i
unfolding record_of
record_length_lem true i prev w h =
    by_test (bucket_head i)
    (λ t. let q = eqb-true (i % bucket_size) 0 t in rw t (omega arith))
    (λ t. let q = length-drop (common prev w) w in let n = eqb-false (i % bucket_size) 0 t in rw t (omega arith))
record_length_lem false i prev w h = let q = length-drop (common prev w) w in omega arith

records-length :
    (heads : Bool) (i : ℕ) (prev : List ℕ) (ws : List (List ℕ)) → ((w : List ℕ) → w ∈ ws → length w ≤ longest_name)
    → length (records heads i prev ws) + buckets heads (i + length ws) ≤ 50 * length ws + buckets heads i
records-length heads i prev [] h = let z : i + 0 ≡ i = omega arith in rw z (omega arith)
records-length heads i prev (w ∷ ws) h =
    let a = record_length_lem heads i prev w (h w (inl refl)) in
    let ih = records-length heads (suc i) w ws (λ f m. h f (inr m)) in
    let z : i + suc (length ws) ≡ suc i + length ws = omega arith in
    rw (length-append (record_of heads i prev w) (records heads (suc i) w ws), z) (omega arith)

name_fits : (es : List Entry) → Valid es → (w : List ℕ) → w ∈ names es → length w ≤ longest_name
name_fits es v w m =
    let q = map_in (λ (e : Entry). e.name) w es m in
    rw q.2 (name_length q.0.name (all_in (λ f. is_name f.name) q.0 es v.allowed q.1))

-- offsets take no more than the bytes that heads leave out
fields_length :
    (heads : Bool) (n records : ℕ) → n ≤ max_entries → records + buckets heads n ≤ 50 * n + buckets heads 0
    → 7 + 4 * n + 2 * buckets heads n + 2 * ceil n block_size + records ≤ 55559
fields_length true n records few h = omega arith
fields_length false n records few h = omega arith

pub book_length_lem : (l : Layout) (es : List Entry) → valid es ≡ true → length (image_in l es) ≤ 55559
unfolding records_at
book_length_lem l es h =
    let v = valid_of es h in
    let r = records-length l.heads 0 [] (names es) (name_fits es v) in
    let z : 0 + length es ≡ length es = omega arith in
    rw (image_length l es)
    (fields_length l.heads (length es) (length (records l.heads 0 [] (names es))) v.few
    (rw (length-names es, z) at r))
