-- The fast walk: names are tested all at once, by counting. Of the bytes of records as many are below 20 as of their
-- common and length bytes alone, exactly where no rest has such a byte; so what the tests of each record leave open is
-- known at the end, and then it is known of every record.
use Prim.Native.Nat.{◌*◌, ◌+◌, ◌-◌, ◌<◌, ◌≤◌, suc, ℕ}
use mathlib.Core.Path.{◌∙◌, ◌≡◌, ap, refl, sym}
use mathlib.Core.Bool.{false, true}
use mathlib.Core.List.{List, [], ◌∷◌}
use mathlib.Core.Option.{some}
use lib.ListN.{drop, get_or, length, length-drop, take}
use lib.Seq.{drop-cons, drop-drop, get_or-drop, get_or-take, length-take-le}
use native.Mathlib.Omega.{arith}
use borrow.Author.Tests.{le-leb}
use Rattle.octets.specs.Lists.{all}
use Rattle.octets.proofs.Lists.{all-at}
use Rattle.octets_count.specs.Counts.{Tops, low_count, low_of}
use Rattle.octets_count.proofs.Laws.{low_both, low_cons, none_low}
use Rattle.entries.specs.Names.{is_plain, longest_name}
use Rattle.book.specs.declared.Layout.{Layout}
use Rattle.book.specs.Records.{head_at, names_from}
use Rattle.book_laws.specs.Check.{offset_is, records_end}
use Rattle.book_laws.specs.Cursor.{cursor_of, name_in}
use Rattle.book_laws.specs.declared.Cursor.{Cursor}
use Rattle.book_record_quick.specs.Quick.{HeaderAt, NameRead, name_room}
use Rattle.book_record_quick.proofs.Step.{quick_keeps, quick_plain, quick_rest, quick_step}
use Rattle.book_seek.specs.Seek.{GoesOn, Seeking, none, settled}
use Rattle.book_seek.specs.declared.Seek.{Seek}
use Rattle.book_seek.proofs.Settling.{settled-early}
use Rattle.book_check_walk.specs.Walks.{between}
use Rattle.book_check_walk.proofs.Reached.{Reached, reached_end, reached_next, reached_start, reached_turn}
use Rattle.book_check_walk.proofs.Walking.{Walking, walk_start, walk_turn}

-- a record's two bytes, and what follows
two_bytes :
    (buf : List ℕ) (at : ℕ) → at + 2 ≤ length buf
    → drop at buf ≡ get_or buf at 0 ∷ get_or buf (at + 1) 0 ∷ drop (at + 2) buf
two_bytes buf at h =
    let one : suc at ≡ at + 1 = omega arith in
    let two : suc (at + 1) ≡ at + 2 = omega arith in
    drop-cons buf at 0 (omega arith)
    ∙ ap (λ i. get_or buf at 0 ∷ drop i buf) one
    ∙ ap (λ l. get_or buf at 0 ∷ l) (drop-cons buf (at + 1) 0 (omega arith))
    ∙ ap (λ i. get_or buf at 0 ∷ get_or buf (at + 1) 0 ∷ drop i buf) two

-- one more record: its two bytes, and its rest
area_more :
    (buf : List ℕ) (start at own : ℕ) → start ≤ at → at + 2 + own ≤ length buf
    → low_count (between start (at + 2 + own) buf)
    ≡ low_count (between start at buf)
    + (low_of (get_or buf at 0) + (low_of (get_or buf (at + 1) 0) + low_count (take own (drop (at + 2) buf))))
area_more buf start at own h fits =
    let x = get_or buf at 0 in
    let y = get_or buf (at + 1) 0 in
    let rest = take own (drop (at + 2) buf) in
    let z : at + 2 + own - start ≡ (at - start) + (2 + own) = omega arith in
    let s : start + (at - start) ≡ at = omega arith in
    let w : 2 + own ≡ suc (suc own) = omega arith in
    let a : drop (at - start) (drop start buf) ≡ x ∷ y ∷ drop (at + 2) buf =
    drop-drop (at - start) start buf ∙ ap (λ i. drop i buf) s ∙ two_bytes buf at (omega arith)
    in
    let t : take (2 + own) (drop (at - start) (drop start buf)) ≡ x ∷ y ∷ rest = rw (a, w) refl in
    ap (λ k. low_count (take k (drop start buf))) z
    ∙ low_both (at - start) (2 + own) (drop start buf)
    ∙ ap (λ l. low_count (between start at buf) + low_count l) t
    ∙ ap (λ k. low_count (between start at buf) + k)
    (low_cons x (y ∷ rest) ∙ ap (λ k. low_of x + k) (low_cons y rest))

-- a rest without low bytes, in an area without high ones, is bytes 20 to 7E
rest_plain :
    (buf : List ℕ) (start from own total : ℕ) → start ≤ from → from + own ≤ total → total ≤ length buf
    → Tops (between start total buf) 0x7E → low_count (take own (drop from buf)) ≡ 0
    → all is_plain (take own (drop from buf)) ≡ true
rest_plain buf start from own total h k fits tops none =
    let rest = take own (drop from buf) in
    let l : length rest ≡ own = length-take-le own (drop from buf) (omega (arith, length-drop from buf)) in
    all-at is_plain 0 rest
    (λ i m.
    let z : start + (from - start + i) ≡ from + i = omega arith in
    let e : get_or rest i 0 ≡ get_or (between start total buf) (from - start + i) 0 =
    get_or-take own (drop from buf) i 0 (omega arith)
    ∙ get_or-drop from buf i 0
    ∙ sym (get_or-take (total - start) (drop start buf) (from - start + i) 0 (omega arith)
    ∙ get_or-drop start buf (from - start + i) 0
    ∙ ap (λ j. get_or buf j 0) z)
    in
    let b = tops (from - start + i) in
    rw (le-leb 0x20 (get_or rest i 0) (none_low rest none i m), le-leb (get_or rest i 0) 0x7E (omega arith)))

-- what the careful walk knows of a cursor, and that the name before it is bytes 20 to 7E
pub record Right (l : Layout) (key buf : List ℕ) (n start : ℕ) (c : Cursor) (s : Seek) : Type 0 where
  pub walking : Walking l buf n start c
  pub reached : Reached key buf n start c (settled s c.index c.at)
  pub plain : all is_plain (name_in c) ≡ true

-- the cursor c stands behind the records of the positions before its index; `found` of their common and length bytes
-- are low, and if there are no more low bytes so far, and no high ones, then all is as the careful walk has it
pub record Going (key buf : List ℕ) (n start total : ℕ) (c : Cursor) (found : ℕ) (s : Seek) : Type 0 where
  pub from : start ≤ c.at
  pub inside : c.at ≤ total
  pub small : c.len ≤ longest_name
  pub long : length c.name ≡ name_room
  pub within : c.index ≤ n
  pub bounded : s.below ≤ length key
  pub few : found ≤ 2 * c.index
  pub counts : found ≤ low_count (between start c.at buf)
  pub right :
      (l : Layout) → l.heads ≡ false → Tops (between start total buf) 0x7E
      → low_count (between start c.at buf) ≤ found → Right l key buf n start c s

pub going_start :
    (key buf name : List ℕ) (n start total : ℕ) → start ≤ total → total ≤ length buf → length name ≡ name_room
    → (s : Seek) → s ≡ none start → Going key buf n start total (cursor_of start 0 name 0) 0 s
going_start key buf name n start total h fits long s e =
    let q : settled s 0 start ≡ none start = rw e (settled-early (none start) 0 start refl) in
    record {
      from = omega arith;
      inside = h;
      small = omega arith;
      long = long;
      within = omega arith;
      bounded = rw e (omega arith);
      few = omega arith;
      counts = omega arith;
      right = λ l off t m.
          record {
            walking = walk_start l buf name n start (omega arith);
            reached = rw q (reached_start key buf name n start);
            plain = refl;
          };
    }

-- a turn
module _
    {key buf : List ℕ} {n start total : ℕ} (fits : total ≤ length buf) {c : Cursor} {found : ℕ} {s : Seek}
    (g : Going key buf n start total c found s) (lt : c.index < n)
    {kept own : ℕ} {name : List ℕ} (wide : length name ≡ name_room)
    (got : NameRead buf c.at total c.name c.len kept own name) (s' : Seek)
    (on : GoesOn key (settled s c.index c.at) c.at (c.at + 2 + own) kept (take own (drop (c.at + 2) buf))
    (settled s' (c.index + 1) (c.at + 2 + own)))
    (below : s'.below ≤ length key)
    {a b : ℕ} (first : a ≡ low_of (get_or buf c.at 0)) (second : b ≡ low_of (get_or buf (c.at + 1) 0))
    (one : a ≤ 1) (two : b ≤ 1)
  where
    h : HeaderAt buf c.at total c.name c.len kept own
    h = got.header

    abbrev d : Cursor
    d = cursor_of (c.at + 2 + own) (c.index + 1) name (kept + own)

    abbrev rest : List ℕ
    rest = take own (drop (c.at + 2) buf)

    more :
        low_count (between start (c.at + 2 + own) buf) ≡ low_count (between start c.at buf) +
        (a + (b + low_count rest))
    more = area_more buf start c.at own g.from (omega (arith, h.inside)) ∙ rw (first, second)

    no_head : (l : Layout) → l.heads ≡ false → head_at l.heads c.index ≡ false
    no_head l off = ap (λ x. head_at x c.index) off

    no_offset : (l : Layout) → l.heads ≡ false → true ≡ offset_is l n c.index c.at buf
    unfolding offset_is
    no_offset l off = rw (no_head l off)

    turned :
        (l : Layout) → l.heads ≡ false → Tops (between start total buf) 0x7E
        → low_count (between start (c.at + 2 + own) buf) ≤ found + a + b → Right l key buf n start d s'
    turned l off t m =
        let k = more in
        let q = g.counts in
        let r = g.right l off t (omega arith) in
        let none : low_count rest ≡ 0 = omega arith in
        let i = h.inside in
        let plain = rest_plain buf start (c.at + 2) own total (omega (arith, g.from)) (omega arith) fits t none in
        let room : c.len ≤ length c.name = omega (arith, g.small, g.long) in
        let holds = got.holds in
        let u = r.walking.sound in
        let v = r.plain in
        let st = quick_step l.heads buf c u total kept own fits h room (no_head l off) v plain name holds in
        let st' = quick_step false buf c u total kept own fits h room refl v plain name holds in
        let keeps = quick_keeps false buf c u total kept own fits h room refl v plain name holds in
        let goes = quick_rest false buf c u total kept own fits h room refl v plain name holds in
        record {
          walking = walk_turn r.walking lt (no_offset l off) refl st refl;
          reached = reached_turn r.reached lt st' refl (settled s' (c.index + 1) (c.at + 2 + own))
              (on start r.reached.vs (take (kept + own) name) r.reached.seeks
              (reached_next r.reached lt st' refl keeps goes));
          plain = quick_plain false buf c u total kept own fits h room refl v plain name holds;
        }

    pub going_turn : Going key buf n start total d (found + a + b) s'
    going_turn =
        record {
          from = omega (arith, g.from);
          inside = h.inside;
          small = h.short;
          long = wide;
          within = omega arith;
          bounded = below;
          few = omega (arith, g.few);
          counts = omega (arith, more, g.counts);
          right = turned;
        }

-- all are read, up to the image's end
pub going_end :
    {key buf : List ℕ} {n start total : ℕ} {c : Cursor} {found : ℕ} {s : Seek} → Going key buf n start total c found s
    → n ≤ c.index → c.at ≡ total
    → (l : Layout) → l.heads ≡ false → Tops (between start total buf) 0x7E
    → found ≡ low_count (between start total buf)
    → (records_end l n n 0 [] start buf ≡ some total)
    × Seeking key start (names_from l.heads n 0 [] (drop start buf)) (settled s c.index c.at)
going_end {buf = buf} {n = n} {start = start} {total = total} {c = c} g h e l off t m =
    let q : low_count (between start c.at buf) ≡ low_count (between start total buf) =
    ap (λ i. low_count (between start i buf)) e
    in
    let r = g.right l off t (omega arith) in
    let z : n - c.index ≡ 0 = omega arith in
    (sym (rw (z, e) at r.walking.left), reached_end l.heads off r.reached h)
