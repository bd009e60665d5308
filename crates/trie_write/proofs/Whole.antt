-- The whole table: all rows share no byte, and what stands under them is the trie's body.
use Prim.Native.Nat.{◌+◌, ◌-◌, ◌<◌, ◌≤◌, suc, ℕ}
use mathlib.Core.Path.{◌∙◌, ◌≡◌, ap, refl, sym}
use mathlib.Core.Bool.{Bool, ◌&&◌, false, true}
use Rattle.std.specs.Prelude.{Option, None, Some}
use mathlib.Core.List.{List, [], ◌∷◌}
use lib.Dec.{leb}
use lib.ListN.{length}
use lib.Seq.{sets, slice, take_all}
use native.Mathlib.Omega.{arith}
use borrow.Author.Tests.{le-ltb, leb-true, lt-ltb, ne_eqb}
use Rattle.octets.specs.Lists.{all}
use Rattle.octets.proofs.Lists.{all_imp}
use Rattle.octets.proofs.Stores.{sets-overwrite}
use Rattle.octets.proofs.Tests.{and_true_both}
use Rattle.entries.specs.Entries.{Entry, valid}
use Rattle.entries.specs.Names.{allowed_bytes, is_name, is_prefix, longest_name}
use Rattle.entries.proofs.Valid.{Valid, valid_of}
use Rattle.entries.proofs.Span.{rising-at}
use Rattle.frame.specs.Frame.{framed}
use Rattle.frame.proofs.Frame.{framed-length}
use Rattle.frame_code.specs.Stored.{put_frame}
use Rattle.frame_code.proofs.Stored.{frame_stores}
use Rattle.trie.specs.Trie.{group_of, highest, levels, remains, trie_image, used_up}
use Rattle.book_table.specs.Table.{Table, entries}
use Rattle.book_table.proofs.Rows.{entries-length}
use Rattle.trie_write_nodes.specs.Nodes.{put_if}
use Rattle.trie_write_rows.specs.Rows.{Named, Shared, set_at_depth}
use Rattle.trie_write.specs.Writing.{Groupable, Grouped, TrieWritten, under_at}
use Rattle.trie.proofs.Bound.{group_bound}

remains-none : (es : List Entry) → remains 0 es ≡ es
remains-none [] = refl
remains-none (e ∷ es) = ap (λ l. e ∷ l) (remains-none es)

set_all : (es : List Entry) (n : ℕ) → length es ≡ n → set_at_depth es 0 n 0 ≡ es
set_all es n h = ap (remains 0) (take_all n es (omega arith)) ∙ remains-none es

unused : (es : List Entry) → all (λ e. is_name e.name) es ≡ true → used_up 0 es ≡ false
unfolding is_name
unused [] h = refl
unused (e ∷ []) h =
    let a = (and_true_both (is_name e.name) true h).0 in
    let b = leb-true 1 (length e.name) (and_true_both (leb 1 (length e.name)) (is_prefix e.name) a).0 in
    ne_eqb (length e.name) 0 (λ q. omega arith)
unused (e ∷ f ∷ es) h = refl

name_allowed : (w : List ℕ) → is_name w ≡ true → allowed_bytes w ≡ true
unfolding is_name is_prefix
name_allowed w h = (and_true_both (leb (length w) longest_name) (allowed_bytes w)
    (and_true_both (leb 1 (length w)) (leb (length w) longest_name && allowed_bytes w) h).1).1

module _
    {u m sc : List ℕ} (z : Table u m sc) (ok : valid (entries u m sc) ≡ true) {top : ℕ}
    (high : top ≡ highest (slice 0 (length m) (entries u m sc)))
  where
    abbrev es : List Entry
    es = entries u m sc

    v : Valid es
    v = valid_of es ok

    long : length es ≡ length m
    long = entries-length u m sc

    top_is : top ≡ highest es
    top_is = high ∙ ap highest (take_all (length m) es (omega (arith, long)))

    abbrev body : List ℕ
    body = group_of levels (highest es) es

    under_all : under_at es 0 (length m) 0 top ≡ body
    unfolding under_at
    under_all =
        let e = set_all es (length m) long in
        let n : used_up 0 (set_at_depth es 0 (length m) 0) ≡ false = ap (used_up 0) e ∙ unused es v.allowed in
        rw (n, under_at) (λ i. group_of levels (top_is i) (e i))

    all_shared : Shared es 0 0 (length m)
    all_shared =
        let l = long in
        record {
          order = omega arith;
          inside = omega arith;
          long = λ p a b. omega arith;
          alike = λ p a b. refl;
          rises = λ p a b. rising-at es v.order p (suc p) (omega arith) (omega arith);
        }

    all_named : Named es
    all_named = all_imp (λ e. is_name e.name) (λ e. allowed_bytes e.name) (λ e h. name_allowed e.name h) es
        v.allowed

    body_low : length body ≤ 802816
    body_low = let a = group_bound levels (highest es) es in let l = long in let f = z.few in omega arith

    image_is : trie_image es ≡ framed 0x31 (length es) body
    unfolding trie_image
    image_is = refl

    image_length : length (trie_image es) ≡ 7 + length body
    unfolding trie_image
    image_length = framed-length 0x31 (length es) body

    pub ready : {n total : ℕ} {put : Bool} → (put ≡ true → length body ≤ total) → (put ≡ true → total ≤ n)
        → Groupable u m sc 0 (length m) 0 top n total 0 put
    ready a b =
        let w = ap length under_all in let l = body_low in
        record {
          able = record { table = z; named = all_named; upto = omega arith; shared = all_shared };
          low = omega arith;
          room = λ t. let q = a t in omega arith;
          inside = b;
        }

    module _ {dst out : List ℕ} {size : ℕ} (g : Grouped es 0 (length m) 0 top dst out 0 0 false size) where
      pub size_is : size ≡ length body
      size_is = let e = g.end in let w = ap length under_all in omega arith

      pub small : size ≤ 802816
      small = omega (arith, size_is, body_low)

      pub measured : out ≡ dst
      unfolding put_if
      measured = g.bytes

      pub refused : length out < size + 7 → TrieWritten es dst None out
      refused h =
          let t = lt-ltb (length dst) (length (trie_image es))
          (omega (arith, size_is, image_length, ap length measured)) in
          record { answer = rw t; left = measured ∙ rw t }

      pub wrote :
          size + 7 ≤ length out → {d3 d4 : List ℕ} {k n : ℕ} → n ≡ length m → d3 ≡ put_frame 0x31 (size + 7) n out
          → Grouped es 0 (length m) 0 top d3 d4 (size + 7) 0 true k → TrieWritten es dst (Some (size + 7)) d4
      unfolding put_if
      wrote h {d3} {d4} {k} e p y =
          let image = image_length in
          let t = le-ltb (length dst) (length (trie_image es)) (omega (arith, size_is, image, ap length measured)) in
          let behind : size + 7 - k ≡ 7 = omega (arith, y.end, ap length under_all, size_is) in
          let total : size + 7 ≡ length (trie_image es) = omega (arith, size_is, image) in
          let bytes : d4 ≡ sets d3 7 body = rw (behind, under_all) at y.bytes in
          let stored : sets d3 7 body ≡ sets dst 0 (framed 0x31 (length es) body) =
          rw (p, measured, e ∙ sym long) (frame_stores 0x31 dst body (size + 7) (length es) (omega (arith, size_is)))
          in
          record {
            answer = rw t (ap Some total);
            left = rw t (bytes ∙ stored ∙ rw (← image_is)
                (sets-overwrite dst (trie_image es) (omega (arith, size_is, image, ap length measured))));
          }

-- the same entries are answered alike
pub answered-same : {es fs : List Entry} {dst : List ℕ} {r : Option ℕ} {out : List ℕ} → es ≡ fs
    → TrieWritten es dst r out
    → TrieWritten fs dst r out
answered-same e a = record { answer = rw (← e) a.answer; left = rw (← e) a.left }
