-- The walk with a key: the names read so far, and where the key stands among them. For layouts without heads.
use Prim.Native.Nat.{◌+◌, ◌-◌, ◌<◌, ◌≤◌, suc, ℕ}
use mathlib.Core.Path.{◌∙◌, ◌≡◌, ap, refl, subst, sym}
use mathlib.Core.Bool.{Bool, false, true}
use mathlib.Core.List.{List, [], ◌++◌, ◌∷◌, append-nil}
use lib.ListN.{drop, length, length-append, take}
use lib.Seq.{append_snoc, drop-drop}
use native.Mathlib.Nat.{add-zero}
use native.Mathlib.Numerals.{add-one}
use native.Mathlib.Omega.{arith}
use Rattle.octets.specs.Octets.{begins, below, common}
use Rattle.octets.proofs.Lists.{drop-take}
use Rattle.book.specs.Records.{head_at, last_or, names_from, record_length, record_name, record_of, records}
use Rattle.book.proofs.Records.{records-append}
use Rattle.book_laws.specs.Cursor.{Step, Stepped, name_in}
use Rattle.book_laws.specs.declared.Cursor.{Cursor}
use Rattle.book_laws.proofs.Walk.{standing_length}
use Rattle.book_record_read.proofs.RecordParts.{record_is_lem}
use Rattle.book_seek.specs.Seek.{GoesOn, Next, Seeking, none}
use Rattle.book_seek.proofs.Seeking.{seeking_start}
use Rattle.book_seek.specs.declared.Seek.{Seek}

-- the names vs are read, the cursor c stands behind them, and s says where the key stands among them
pub record Reached (key buf : List ℕ) (n start : ℕ) (c : Cursor) (s : Seek) : Type 0 where
  pub vs : List (List ℕ)
  pub whole :
      names_from false n 0 [] (drop start buf)
      ≡ vs ++ names_from false (n - c.index) c.index (name_in c) (drop c.at buf)
  pub many : length vs ≡ c.index
  pub last : last_or [] vs ≡ name_in c
  pub from : c.at ≡ start + length (records false 0 [] vs)
  pub seeks : Seeking key start vs s

pub reached_start :
    (key buf name : List ℕ) (n start : ℕ)
    → Reached key buf n start (record { at = start; index = 0; name = name; len = 0 }) (none start)
reached_start key buf name n start =
    let z : n - 0 ≡ n = omega arith in
    record {
      vs = [];
      whole = rw z;
      many = refl;
      last = refl;
      from = sym (add-zero start);
      seeks = seeking_start key start;
    }

-- a turn: the record at c is read
module _
    {key buf : List ℕ} {n start : ℕ} {c : Cursor} {s : Seek} (g : Reached key buf n start c s) (lt : c.index < n)
    {t : Step} (st : Stepped false buf c t) (ok : t.ok ≡ true)
  where
    abbrev w : List ℕ
    w = name_in t.next

    abbrev i : ℕ
    i = c.index

    abbrev bs : List ℕ
    bs = drop c.at buf

    abbrev rec : List ℕ
    rec = record_of false i (name_in c) w

    named : w ≡ record_name false i (name_in c) bs
    named = (st.next ok).name

    parts : (begins rec bs ≡ true) × (below (name_in c) w ≡ true)
    parts = let q = record_is_lem false i (name_in c) bs (sym st.ok ∙ ok) in rw named (q.0, q.2)

    long : record_length false i bs ≡ length rec
    long = standing_length false i (name_in c) w bs parts.0

    -- what the search asks of it
    pub reached_next :
        {kept : ℕ} {rest : List ℕ} → kept ≡ common (name_in c) w → rest ≡ drop kept w
        → Next start g.vs w c.at t.next.at kept rest
    reached_next k r =
        record {
          above = rw g.last parts.1;
          keeps = rw g.last k;
          goes_on = r;
          from = g.from;
          to = (st.next ok).at ∙ rw (g.last, g.many, long);
        }

    last_more : (vs : List (List ℕ)) (p : List ℕ) → last_or p (vs ++ (w ∷ [])) ≡ w
    last_more [] p = refl
    last_more (v ∷ vs) p = last_more vs v

    more_long :
        length (records false 0 [] (g.vs ++ (w ∷ []))) ≡ length (records false 0 [] g.vs) + length rec
    more_long =
        let z : 0 + length g.vs ≡ i = omega (arith, g.many) in
        let one = record_of false (0 + length g.vs) (last_or [] g.vs) w in
        ap length (records-append false g.vs (w ∷ []) 0 [])
        ∙ length-append (records false 0 [] g.vs) (one ++ [])
        ∙ rw (append-nil (record_of false (0 + length g.vs) (last_or [] g.vs) w), z, g.last)

    -- and the names with it
    pub reached_turn :
        (s' : Seek) → Seeking key start (g.vs ++ (w ∷ [])) s' → Reached key buf n start t.next s'
    reached_turn s' h =
        let one : n - i ≡ suc (n - suc i) = omega arith in
        let x : t.next.index ≡ suc i = (st.next ok).index ∙ add-one i in
        let y : t.next.at ≡ c.at + record_length false i bs = (st.next ok).at in
        record {
          vs = g.vs ++ (w ∷ []);
          whole = g.whole
              ∙ rw (one, x, y, ← drop-drop (record_length false i bs) c.at buf, ← named)
              (sym (append_snoc g.vs w (names_from false (n - suc i) (suc i) w (drop (record_length false i bs) bs))));
          many = length-append g.vs (w ∷ []) ∙ omega (arith, g.many);
          last = last_more g.vs [];
          from = y ∙ omega (arith, g.from, more_long, long);
          seeks = h;
        }

-- a turn as the code has it: the record was read, and the search went on
pub reached_on :
    (heads : Bool) → heads ≡ false → {key buf : List ℕ} {n start : ℕ} {c : Cursor} {s : Seek}
    → Reached key buf n start c s → c.index < n → {t : Step} → Stepped heads buf c t → t.ok ≡ true
    → {kept : ℕ} → (head_at heads c.index ≡ false → kept ≡ common (name_in c) (name_in t.next))
    → (s' : Seek)
    → GoesOn key s c.at t.next.at kept (take (t.next.len - kept) (drop kept t.next.name)) s'
    → Reached key buf n start t.next s'
reached_on heads off {buf = buf} {start = start} {c = c} g lt {t} st ok {kept} k s' on =
    let st' : Stepped false buf c t = subst (λ (h : Bool). Stepped h buf c t) off st in
    let q = k (ap (λ h. head_at h c.index) off) in
    reached_turn g lt st' ok s'
    (on start g.vs (name_in t.next) g.seeks
    (reached_next g lt st' ok q (sym (drop-take kept t.next.len t.next.name))))

-- all are read
pub reached_end :
    (heads : Bool) → heads ≡ false → {key buf : List ℕ} {n start : ℕ} {c : Cursor} {s : Seek}
    → Reached key buf n start c s → n ≤ c.index → Seeking key start (names_from heads n 0 [] (drop start buf)) s
reached_end heads off {key} {buf} {n} {start} {c} {s} g h =
    let z : n - c.index ≡ 0 = omega arith in
    let e : names_from heads n 0 [] (drop start buf) ≡ g.vs =
    ap (λ x. names_from x n 0 [] (drop start buf)) off ∙ (rw z at g.whole) ∙ append-nil g.vs
    in
    subst (λ (ws : List (List ℕ)). Seeking key start ws s) (sym e) g.seeks
