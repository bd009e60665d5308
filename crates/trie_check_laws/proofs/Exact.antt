-- The check accepts exactly the buffers that are read, and bytes 5 and 6 say how many entries these hold.
use Prim.Native.Nat.{◌*◌, ◌+◌, ◌<◌, ◌^◌, ◌≤◌, ℕ}
use mathlib.Core.Path.{◌∙◌, ◌≡◌, ap, refl, sym}
use mathlib.Core.Logic.{inl, inr}
use mathlib.Core.Bool.{◌&&◌, false, false≢true, true}
use mathlib.Core.List.{List, [], ◌++◌, ◌∷◌}
use mathlib.Core.Option.{Option, none, some}
use lib.Dec.{eqb, leb}
use lib.ListN.{drop, length}
use native.Mathlib.Omega.{arith}
use borrow.Author.Tests.{eq-eqb, eqb-false, eqb-true, le-leb, leb-true, ltb-true, ne_eqb}
use Rattle.octets.specs.Lists.{◌∈◌}
use Rattle.octets.specs.Octets.{be, begins, number_at}
use Rattle.octets.proofs.Lists.{all_in, all_of}
use Rattle.octets.proofs.Numbers.{Bytes, number-stands, stands-number}
use Rattle.octets.proofs.Order.{begins-append, begins_first, begins-length, begins_split}
use Rattle.octets.proofs.Tests.{and_intro, and_true_both, by_test}
use Rattle.entries.specs.Entries.{Entry, is_entry, max_entries, valid}
use Rattle.entries.specs.Names.{allowed_bytes, is_name, is_prefix, is_score, longest_name}
use Rattle.entries_laws.specs.declared.Half.TheVariants as half
use Rattle.entries_laws.specs.Signs.{half_after, no_half}
use Rattle.entries_laws.proofs.Signs.{allowed_half}
use Rattle.entries.proofs.Valid.{Valid, score_fits_lem, valid_intro, valid_of}
use Rattle.frame.specs.Frame.{framed, is_read}
use Rattle.frame_laws.specs.Test.{frame_is}
use Rattle.frame_laws.proofs.Test.{FrameTests, frame_passes, frame_tests, version_stands}
use Rattle.frame.proofs.Frame.{framed-length, framed-parts}
use Rattle.trie.specs.Reading.{read_trie}
use Rattle.trie.specs.Trie.{group_bytes, group_of, highest, levels, trie_image, used_up}
use Rattle.trie.proofs.Trie.{trie_exact}
use Rattle.trie_group_laws.proofs.Made.{Suffixes}
use Rattle.trie_check_laws.specs.Walk.{above, in_group, trie_body_is, trie_checks, turns, walk_of, walk_to}
use Rattle.trie_check_laws.proofs.Complete.{group_on}
use Rattle.trie_check_laws.proofs.Sound.{GroupRead, sound, whole_to}
use Rattle.trie_check_laws.proofs.Weight.{group_weight, weight}
use Rattle.trie_check_laws.proofs.Written.{drop-length}

-- a valid list is what the first group is made of
record Named (w : List ℕ) : Type 0 where
  allowed : allowed_bytes w ≡ true
  short : length w ≤ longest_name
  some : 1 ≤ length w

name_of : (w : List ℕ) → is_name w ≡ true → Named w
unfolding is_name is_prefix
name_of w h =
    let a = and_true_both (leb 1 (length w)) (leb (length w) longest_name && allowed_bytes w) h in
    let b = and_true_both (leb (length w) longest_name) (allowed_bytes w) a.1 in
    record { allowed = b.1; short = leb-true (length w) longest_name b.0; some = leb-true 1 (length w) a.0 }

name_is : (w : List ℕ) → Named w → is_name w ≡ true
unfolding is_name is_prefix
name_is w h =
    and_intro (leb 1 (length w)) (leb (length w) longest_name && allowed_bytes w) (le-leb 1 (length w) h.some)
    (and_intro (leb (length w) longest_name) (allowed_bytes w) (le-leb (length w) longest_name h.short) h.allowed)

score_of_lem : (v : ℕ) → is_score v ≡ true → v < 2 ^ 32
unfolding is_score
score_of_lem v h = ltb-true v (2 ^ 32) h

not_lone : (es : List Entry) → ((e : Entry) → e ∈ es → 1 ≤ length e.name) → used_up 0 es ≡ false
not_lone [] h = refl
not_lone (e ∷ []) h = let a = h e (inl refl) in ne_eqb (length e.name) 0 (λ z. omega arith)
not_lone (e ∷ f ∷ es) h = refl

valid_suffixes : (es : List Entry) → Valid es → 0 < length es → Suffixes 0 no_half true es
valid_suffixes es v h =
    record {
      some = h;
      up = v.order;
      allowed = λ e m. eqb-true (half_after no_half e.name) no_half (sym (allowed_half e.name) ∙ (named e m).allowed);
      short = λ e m. let a = (named e m).short in omega arith;
      fits = λ e m. score_of_lem e.score (all_in (λ f. is_score f.score) e es v.fits m);
      ends = λ z e m. (named e m).some;
      lone = not_lone es (λ e m. (named e m).some);
      wide = λ z. absurd (false≢true (sym z));
    }
  where
    named : (e : Entry) → e ∈ es → Named e.name
    named e m = name_of e.name (all_in (λ f. is_name f.name) e es v.allowed m)

suffixes_valid : (es : List Entry) → Suffixes 0 no_half true es → length es ≤ max_entries → valid es ≡ true
suffixes_valid es h few =
    valid_intro es few
    (all_of is_entry es
    (λ e m.
    and_intro (is_name e.name) (is_score e.score)
    (name_is e.name
    (record {
      allowed = allowed_half e.name ∙ eq-eqb _ _ (h.allowed e m);
      short = let a = h.short e m in omega arith;
      some = h.ends refl e m;
    }))
    (score_fits_lem e.score (h.fits e m))))
    h.up

-- the body of an image, and how long it can be
abbrev body_of : List Entry → List ℕ
body_of es = group_of levels (highest es) es

body_none : body_of [] ≡ []
unfolding group_bytes
body_none = refl

weight_most : (es : List Entry) → ((e : Entry) → e ∈ es → length e.name ≤ longest_name) → weight es ≤ 489 * length es
weight_most [] h = omega arith
weight_most (e ∷ es) h = let a = h e (inl refl) in let ih = weight_most es (λ f m. h f (inr m)) in omega arith

weight_few : (es : List Entry) → Valid es → Suffixes 0 no_half true es → weight es ≤ 489 * max_entries
weight_few es v h =
    let a = weight_most es (λ e m. let b = h.short e m in omega arith) in
    let c = v.few in
    omega arith

body_most : (es : List Entry) → Valid es → length (body_of es) < 1000000
body_most [] v = rw body_none (omega arith)
body_most (e ∷ es) v =
    let h = valid_suffixes (e ∷ es) v (omega arith) in
    let a = group_weight levels (highest (e ∷ es)) 0 no_half true (e ∷ es) h in
    let b = weight_few (e ∷ es) v h in
    omega arith

-- a buffer that passes is read
module _ (buf : List ℕ) (b : Bytes buf) (f : FrameTests 0x31 buf) where
  abbrev n : ℕ
  n = number_at 2 buf 5

  abbrev total : ℕ
  total = number_at 4 buf 1

  passes_as : (es : List Entry) → valid es ≡ true → n ≡ length es → total ≡ 7 + length (body_of es)
      → begins (body_of es) (drop 7 buf) ≡ true → is_read (read_trie buf) ≡ true
  unfolding trie_image
  passes_as es v c t s =
      let g = f.long in
      let l = framed-length 0x31 (length es) (body_of es) in
      ap is_read
      (trie_exact.complete es buf v
      (framed-parts 0x31 (length es) (body_of es) buf
      ∙ rw (
        version_stands 0x31 buf f,
        number-stands 4 buf 1 b (omega arith) (length (framed 0x31 (length es) (body_of es))) (omega arith),
        number-stands 2 buf 5 b (omega arith) (length es) c,
      )
      s))

  passes_none : n ≡ 0 → total ≡ 7 → is_read (read_trie buf) ≡ true
  unfolding valid
  passes_none c t =
      let z = ap length body_none in
      passes_as [] refl c (omega arith) (rw body_none)

  module _ (g : GroupRead buf 7 (above 0 half.None 0 true) n total 0) where
    top : g.f ≡ highest g.es
    top = let a = g.top in omega arith

    body : drop 7 buf ≡ body_of g.es ++ drop total buf
    body = g.bytes levels (omega arith) ∙ ap (λ k. group_of levels k g.es ++ drop total buf) top

    passes_some : is_read (read_trie buf) ≡ true
    passes_some =
        let c : n ≡ length g.es = g.count ∙ (let z : 0 + length g.es ≡ length g.es = omega arith in z) in
        let p = g.past in
        let few = f.few in
        let l = drop-length buf (body_of g.es) 7 total body (omega arith) g.within in
        passes_as g.es (suffixes_valid g.es g.of (omega arith)) c (omega arith)
        (rw body (begins-append (body_of g.es) (drop total buf)))

  passes_read : trie_body_is buf ≡ true → is_read (read_trie buf) ≡ true
  unfolding trie_body_is
  passes_read h =
      by_test (eqb n 0)
      (λ t. passes_none (eqb-true n 0 t) (eqb-true total 7 (rw t at h)))
      (λ t.
      passes_some
      (sound buf b (turns buf) (in_group 7 (above 0 half.None 0 true) n) total 0
      (whole_to (walk_of buf (turns buf) (in_group 7 (above 0 half.None 0 true) n)) total (rw t at h)) (omega arith)
      (λ z. refl)))

-- a buffer that is read passes
module _ (buf : List ℕ) (es : List Entry) (h : read_trie buf ≡ some es) where
  abbrev image : List ℕ
  image = framed 0x31 (length es) (body_of es)

  stands : (valid es ≡ true) × (begins image buf ≡ true)
  unfolding trie_image
  stands = trie_exact.sound es buf h

  v : Valid es
  v = valid_of es stands.0

  parts : (begins (0x31 ∷ []) buf ≡ true) × (begins (be 4 (length image)) (drop 1 buf) ≡ true)
      × (begins (be 2 (length es)) (drop 5 buf) ≡ true) × (begins (body_of es) (drop 7 buf) ≡ true)
  parts =
      let a = and_true_both _ _ (sym (framed-parts 0x31 (length es) (body_of es) buf) ∙ stands.1) in
      let b = and_true_both _ _ a.1 in
      let c = and_true_both _ _ b.1 in
      (a.0, b.0, c.0, c.1)

  image_length : length image ≡ 7 + length (body_of es)
  image_length = framed-length 0x31 (length es) (body_of es)

  inside : 7 + length (body_of es) ≤ length buf
  inside = let a = begins-length image buf stands.1 in let l = image_length in omega arith

  pub trie_count : number_at 2 buf 5 ≡ length es
  trie_count = let few = v.few in let i = inside in
      stands-number 2 buf 5 (length es) (omega arith) parts.2 (omega arith)

  total_is : number_at 4 buf 1 ≡ 7 + length (body_of es)
  total_is =
      let l = image_length in
      let m = body_most es v in
      let i = inside in
      stands-number 4 buf 1 (length image) (omega arith) parts.1 (omega arith) ∙ l

  walks : 0 < length es → walk_of buf (turns buf) (in_group 7 (above 0 half.None 0 true) (length es)) ≡ walk_to
      (7 + length (body_of es)) 0
  walks s =
      let o = valid_suffixes es v s in
      let w = weight_few es v o in
      let i = inside in
      group_on buf levels es (highest es) 7 0 half.None 0 true (length es) 0 (turns buf)
      (drop (length (body_of es)) (drop 7 buf))
      o (omega arith) (omega arith)
      (λ z. absurd (z refl)) (λ z. refl) (omega arith) (omega arith) (omega arith)
      (begins_split (body_of es) (drop 7 buf) parts.3) (omega arith)

  read_body : trie_body_is buf ≡ true
  unfolding trie_body_is
  read_body =
      rw (trie_count, total_is)
      (by_test (eqb (length es) 0)
      (λ t. rw t (eq-eqb (7 + length (body_of es)) 7 (empty es (eqb-true (length es) 0 t))))
      (λ t. rw (
        t,
        walks (pos (eqb-false (length es) 0 t)),
        eq-eqb (7 + length (body_of es)) (7 + length (body_of es)) refl,
      )))
    where
      empty : (fs : List Entry) → length fs ≡ 0 → 7 + length (body_of fs) ≡ 7
      empty [] z = ap (λ w. 7 + length w) body_none
      empty (f ∷ fs) z = absurd (omega arith)

      pos : (length es ≡ 0 → ⊥) → 0 < length es
      pos c = omega arith

  read_frame : FrameTests 0x31 buf
  read_frame =
      let i = inside in
      record {
        long = omega arith;
        version = begins_first 0x31 buf parts.0;
        few = rw trie_count v.few;
        fits = rw total_is i;
      }

  read_passes : trie_checks buf ≡ true
  unfolding trie_checks
  read_passes = and_intro (frame_is 0x31 buf) (trie_body_is buf) (frame_passes 0x31 buf read_frame) read_body

pub trie_check_exact : (buf : List ℕ) → Bytes buf → trie_checks buf ≡ is_read (read_trie buf)
unfolding trie_checks
trie_check_exact buf b =
    by_test (trie_checks buf)
    (λ t.
    let a = and_true_both (frame_is 0x31 buf) (trie_body_is buf) t in
    t ∙ sym (passes_read buf b (frame_tests 0x31 buf a.0) a.1))
    (λ t. refused t (read_trie buf) refl)
  where
    refused : trie_checks buf ≡ false → (o : Option (List Entry)) → read_trie buf ≡ o → trie_checks buf ≡ is_read o
    refused t none e = t
    refused t (some es) e = absurd (false≢true (sym t ∙ read_passes buf es e))
