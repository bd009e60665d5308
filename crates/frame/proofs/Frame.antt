-- The first seven bytes of an image, and reading for any pair of a writer and its reader.
use Prim.Native.Nat.{◌+◌, ◌<◌, suc, ℕ}
use mathlib.Core.Path.{◌∙◌, ◌≡◌, ap, refl, sym}
use mathlib.Core.Bool.{Bool, ◌&&◌, false, true}
use mathlib.Core.List.{List, [], ◌++◌, ◌∷◌, append_assoc}
use mathlib.Core.Option.{Option, none, some}
use lib.ListN.{drop, length, length-append}
use lib.Seq.{drop_at, take_at}
use native.Mathlib.Omega.{arith}
use Rattle.octets.specs.Octets.{be, begins}
use Rattle.octets.proofs.Coding.{from_be-be, length-be}
use Rattle.octets.proofs.Order.{begins-append, begins-at, begins-parts, begins_split}
use Rattle.entries.specs.Entries.{Entry, at, valid}
use Rattle.entries.proofs.Valid.{Valid, valid_of}
use Rattle.frame.specs.Frame.{Exact, count_of, entries_of, framed, read_as}

-- the frame of an image
pub framed-count : (v n : ℕ) (body rest : List ℕ) → n < 65536 → count_of (framed v n body ++ rest) ≡ n
unfolding count_of framed
framed-count v n body rest h =
    rw (
      append_assoc (v ∷ be 4 (7 + length body)) (be 2 n ++ body) rest,
      drop_at (v ∷ be 4 (7 + length body)) (be 2 n ++ body ++ rest) 5 (ap suc (length-be 4 (7 + length body))),
      append_assoc (be 2 n) body rest,
      take_at (be 2 n) (body ++ rest) 2 (length-be 2 n),
    )
    (from_be-be 2 n h)

front : ℕ → ℕ → List ℕ → List ℕ
front v n body = v ∷ be 4 (7 + length body) ++ be 2 n

front_length : (v n : ℕ) (body : List ℕ) → length (front v n body) ≡ 7
unfolding front
front_length v n body = rw (length-append, length-be, length-be)

framed_split : (v n : ℕ) (body rest : List ℕ) → framed v n body ++ rest ≡ front v n body ++ (body ++ rest)
unfolding framed front
framed_split v n body rest = simp append_assoc

pub framed_body : (v n : ℕ) (body rest : List ℕ) → drop 7 (framed v n body ++ rest) ≡ body ++ rest
framed_body v n body rest = rw framed_split (drop_at (front v n body) (body ++ rest) 7 (front_length v n body))

pub framed-length : (v n : ℕ) (body : List ℕ) → length (framed v n body) ≡ 7 + length body
unfolding framed
framed-length v n body = rw (length-append, length-be, length-append, length-be) (omega arith)

-- the frame's parts, each in its place
pub framed-parts :
    (v n : ℕ) (body s : List ℕ)
    → begins (framed v n body) s
    ≡ (begins (v ∷ []) s
    && (begins (be 4 (length (framed v n body))) (drop 1 s) && (begins (be 2 n) (drop 5 s) && begins body (drop 7 s))))
unfolding framed
framed-parts v n body s =
    rw (
      framed-length v n body,
      begins-parts (v ∷ []) (be 4 (7 + length body) ++ (be 2 n ++ body)) s,
      begins-at (be 4 (7 + length body)) (be 2 n ++ body) s 1,
      length-be 4 (7 + length body),
      begins-at (be 2 n) body s 5,
      length-be 2 n,
    )

-- sound, by definition
read_as_sound :
    (decode : List ℕ → List Entry) (encode : List Entry → List ℕ) (es : List Entry) (buf : List ℕ)
    → read_as decode encode buf ≡ some es → (valid es ≡ true) × (begins (encode es) buf ≡ true)
unfolding read_as
read_as_sound decode encode es buf h = go (valid (decode buf)) (begins (encode (decode buf)) buf) refl refl
  where
    go :
        (a b : Bool) → valid (decode buf) ≡ a → begins (encode (decode buf)) buf ≡ b → (valid es ≡ true)
        × (begins (encode es) buf ≡ true)
    go true true e f =
        let r : ◌≡◌ {A = Option (List Entry)} (some (decode buf)) (some es) = rw (e, f) at h in
        let q : decode buf ≡ es = cc in
        (rw q at e, rw q at f)
    go true false e f = let r : ◌≡◌ {A = Option (List Entry)} none (some es) = rw (e, f) at h in (cc, cc)
    go false b e f = let r : ◌≡◌ {A = Option (List Entry)} none (some es) = rw e at h in (cc, cc)

-- Reading, for any pair of a writer and a reader of which the reader gives back what the writer wrote.
module _
    (decode : List ℕ → List Entry)
    (encode : List Entry → List ℕ)
    (back : (es : List Entry) (rest : List ℕ) → Valid es → decode (encode es ++ rest) ≡ es)
  where
    read_as_of : (es : List Entry) (rest : List ℕ) → valid es ≡ true → read_as decode encode (encode es ++ rest) ≡ some es
    unfolding read_as
    read_as_of es rest h = rw (back es rest (valid_of es h), h, begins-append (encode es) rest)

    read_as_complete : (es : List Entry) (buf : List ℕ) → valid es ≡ true → begins (encode es) buf ≡ true
        → read_as decode encode buf ≡ some es
    read_as_complete es buf h k = rw (begins_split (encode es) buf k) (read_as_of es (drop (length (encode es)) buf) h)

    -- read exactly, and no two lists from one buffer
    pub exact : Exact (read_as decode encode) encode
    exact =
        record {
          sound = read_as_sound decode encode;
          complete = read_as_complete;
          unique = λ es fs buf h k a b. let p = read_as_complete es buf h a in let q = read_as_complete fs buf k b in cc;
        }

-- what is read when an image stands in front of anything
pub read_of :
    (read : List ℕ → Option (List Entry)) (image : List Entry → List ℕ) → Exact read image
    → (es : List Entry) (rest : List ℕ) → valid es ≡ true → read (image es ++ rest) ≡ some es
read_of read image x es rest h = x.complete es (image es ++ rest) h (begins-append (image es) rest)

-- the entries of any buffer are valid: those that are read, or none
pub entries-valid :
    (read : List ℕ → Option (List Entry)) (image : List Entry → List ℕ) → Exact read image
    → (buf : List ℕ) → valid (entries_of (read buf)) ≡ true
unfolding valid
entries-valid read image x buf = go (read buf) refl
  where
    go : (o : Option (List Entry)) → read buf ≡ o → valid (entries_of o) ≡ true
    go none e = refl
    go (some es) e = (x.sound es buf e).0

-- images have one reading: two that are exact for them agree on every buffer
pub same_reading :
    (image : List Entry → List ℕ) (r r' : List ℕ → Option (List Entry)) → Exact r image → Exact r' image
    → (buf : List ℕ) → r buf ≡ r' buf
same_reading image r r' x x' buf = go (r buf) (r' buf) refl refl
  where
    go : (o o' : Option (List Entry)) → r buf ≡ o → r' buf ≡ o' → r buf ≡ r' buf
    go none none e e' = e ∙ sym e'
    go none (some es) e e' = let s = x'.sound es buf e' in x.complete es buf s.0 s.1 ∙ sym e'
    go (some es) o' e e' = let s = x.sound es buf e in e ∙ sym (x'.complete es buf s.0 s.1)
