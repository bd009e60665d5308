-- Texts of whole signs: an allowed prefix with signs behind it and without its last sign, a text as a list of signs.
use Prim.Native.Nat.{◌+◌, ◌-◌, ◌≤◌, suc, ℕ}
use mathlib.Core.Path.{◌∙◌, ◌≡◌, ap, refl, sym}
use mathlib.Core.Bool.{Bool, false, false≢true, true}
use mathlib.Core.List.{List, [], ◌++◌, ◌∷◌}
use lib.Dec.{eqb, leb}
use lib.ListN.{drop, get_or, length, length-append, length-take, take, take-append-drop}
use native.Mathlib.Omega.{arith}
use borrow.Author.Tests.{eqb-true, le-leb, leb-true, ne_eqb}
use Rattle.octets.proofs.Tests.{and_false, and_intro, and_true_both, by_test}
use Rattle.octets.specs.Lists.{all, concat_map}
use Rattle.entries.specs.Names.{InSigns, allowed_bytes, is_pair, is_plain, is_prefix, is_sign, last_sign, longest_name}
use Rattle.entries_laws.specs.Signs.{half_after, no_half}
use Rattle.entries_laws.proofs.Signs.{CutAt, allowed_behind, allowed_half, between, cut_allowed, first_sign}
use Rattle.entries_laws.proofs.Signs.{in_micro, in_ohm}

-- at most 48 bytes, and allowed ones
prefix_of : (w : List ℕ) → length w ≤ longest_name → allowed_bytes w ≡ true → is_prefix w ≡ true
unfolding is_prefix
prefix_of w l a = and_intro (leb (length w) longest_name) (allowed_bytes w) (le-leb _ _ l) a

prefix_is : (w : List ℕ) → is_prefix w ≡ true → (length w ≤ longest_name) × (allowed_bytes w ≡ true)
unfolding is_prefix
prefix_is w h =
    let a = and_true_both (leb (length w) longest_name) (allowed_bytes w) h in
    (leb-true (length w) longest_name a.0, a.1)

-- signs behind a prefix
pub prefix_more : (w s : List ℕ) → is_prefix w ≡ true → allowed_bytes s ≡ true → length w + length s ≤ longest_name
    → is_prefix (w ++ s) ≡ true
prefix_more w s h a l =
    prefix_of (w ++ s) (omega (arith, length-append w s)) (allowed_behind w s (prefix_is w h).1 ∙ a)

-- a byte that is a sign by itself begins no pair, nor does the other half of one
plain_first : (a b : ℕ) → is_plain a ≡ true → is_pair a b ≡ false
plain_first a b p =
    let q = leb-true a 0x7E (and_true_both (leb 0x20 a) (leb a 0x7E) p).1 in
    rw (ne_eqb a 0xC2 (λ e. omega arith), ne_eqb a 0xCE (λ e. omega arith))

tail_first : (a b c : ℕ) → is_pair a b ≡ true → is_pair b c ≡ false
tail_first a b c p =
    by_test (eqb b 0xB5)
    (λ t. rw (eqb-true b 0xB5 t))
    (λ t.
    by_test (eqb b 0xA9)
    (λ s. rw (eqb-true b 0xA9 s))
    (λ s. absurd (false≢true (rw (t, s, and_false (eqb a 0xC2), and_false (eqb a 0xCE)) at p))))

pub same_first_lem : (a : ℕ) → is_pair a a ≡ false
same_first_lem a =
    by_test (eqb a 0xC2)
    (λ t. rw (eqb-true a 0xC2 t))
    (λ t. by_test (eqb a 0xCE) (λ s. rw (eqb-true a 0xCE s)) (λ s. rw (t, s)))

-- the last sign of a text that has one is a part of it
pub last_within : (w : List ℕ) → 1 ≤ length w → last_sign w ≤ length w
last_within [] h = absurd (omega arith)
last_within (a ∷ []) h = rw same_first_lem (omega arith)
last_within (a ∷ b ∷ w) h =
    let v = a ∷ b ∷ w in
    by_test (is_pair (get_or v (length v - 2) 0) (get_or v (length v - 1) 0))
    (λ t. rw t (omega arith))
    (λ t. rw t (omega arith))

-- a byte in front of two makes no other last sign
one-before : (a : ℕ) (w : List ℕ) → 2 ≤ length w → last_sign (a ∷ w) ≡ last_sign w
one-before a w h =
    let y : suc (length w) - 2 ≡ suc (length w - 2) = omega arith in
    let z : suc (length w) - 1 ≡ suc (length w - 1) = omega arith in
    rw (y, z)

-- what stands in the place of the last sign of an allowed text is one
abbrev last_of : List ℕ → List ℕ
last_of w = drop (length w - last_sign w) w

behind_one : (a : ℕ) (w : List ℕ) → 1 ≤ length w → last_sign (a ∷ w) ≡ last_sign w → last_of (a ∷ w) ≡ last_of w
behind_one a w n e =
    let z : suc (length w) - last_sign w ≡ suc (length w - last_sign w) = omega (arith, last_within w n) in rw (e, z)

last_is_sign : (w : List ℕ) → allowed_bytes w ≡ true → 1 ≤ length w → is_sign (last_of w) ≡ true
unfolding allowed_bytes
last_is_sign [] h n = absurd (omega arith)
last_is_sign (a ∷ []) h n = rw same_first_lem h
last_is_sign (a ∷ b ∷ []) h n =
    by_test (is_plain a)
    (λ t. rw (plain_first a b t) (sym (first_sign a b [] true t) ∙ h))
    (λ t. let p = (and_true_both (is_pair a b) true (sym (first_sign a b [] false t) ∙ h)).0 in rw p p)
last_is_sign (a ∷ b ∷ c ∷ w) h n =
    by_test (is_plain a)
    (λ t.
    ap is_sign (behind_one a (b ∷ c ∷ w) (omega arith) (one-before a (b ∷ c ∷ w) (omega arith)))
    ∙ last_is_sign (b ∷ c ∷ w) (sym (first_sign a b (c ∷ w) true t) ∙ h) (omega arith))
    (λ t.
    let s = and_true_both (is_pair a b) (allowed_bytes (c ∷ w)) (sym (first_sign a b (c ∷ w) false t) ∙ h) in
    ap is_sign (behind_pair a b c w s.0) ∙ last_is_sign (c ∷ w) s.1 (omega arith))
  where
    behind_pair : (a b c : ℕ) (w : List ℕ) → is_pair a b ≡ true → last_of (a ∷ b ∷ c ∷ w) ≡ last_of (c ∷ w)
    behind_pair a b c [] p = rw (tail_first a b c p, same_first_lem c)
    behind_pair a b c (d ∷ w) p =
        behind_one a (b ∷ c ∷ d ∷ w) (omega arith) (one-before a (b ∷ c ∷ d ∷ w) (omega arith))
        ∙ behind_one b (c ∷ d ∷ w) (omega arith) (one-before b (c ∷ d ∷ w) (omega arith))

-- so the text ends between signs in front of it, since no sign begins with the other half of a pair
tail_alone : (u : List ℕ) → (is_sign (0xB5 ∷ u) ≡ false) × (is_sign (0xA9 ∷ u) ≡ false)
tail_alone [] = (refl, refl)
tail_alone (b ∷ []) = (refl, refl)
tail_alone (b ∷ c ∷ u) = (refl, refl)

sign_less : (w : List ℕ) → allowed_bytes w ≡ true → allowed_bytes (take (length w - last_sign w) w) ≡ true
unfolding allowed_bytes
sign_less [] h = refl
sign_less (a ∷ w) h = ends (half_after no_half front) (last_of v) refl (cut_allowed k v h) (last_is_sign v h (omega arith))
  where
    v : List ℕ
    v = a ∷ w

    k : ℕ
    k = length v - last_sign v

    front : List ℕ
    front = take k v

    ends : (g : ℕ) (s : List ℕ) → half_after no_half front ≡ g → CutAt g s → is_sign s ≡ true → allowed_bytes front ≡ true
    ends g s e between i = allowed_half front ∙ rw e
    ends g s e (in_micro {w}) i = absurd (false≢true (sym (tail_alone w).0 ∙ i))
    ends g s e (in_ohm {w}) i = absurd (false≢true (sym (tail_alone w).1 ∙ i))

-- a prefix without its last sign
pub prefix_less : (w : List ℕ) → is_prefix w ≡ true → is_prefix (take (length w - last_sign w) w) ≡ true
prefix_less w h =
    let a = prefix_is w h in
    let k = length w - last_sign w in
    prefix_of (take k w) (omega (arith, a.0, length-take k w)) (sign_less w a.1)

-- and what it loses is a whole sign
pub sign_lost : (w : List ℕ) → is_prefix w ≡ true → 1 ≤ length w
    → (s : List ℕ) × (is_sign s ≡ true) × (take (length w - last_sign w) w ++ s ≡ w)
sign_lost w h n = (last_of w, last_is_sign w (prefix_is w h).1 n, take-append-drop (length w - last_sign w) w)

-- a text is allowed exactly if it is signs one behind the other
pub in_signs : (w : List ℕ) → allowed_bytes w ≡ true → InSigns w
unfolding allowed_bytes
in_signs [] h = record { signs = []; each = refl; joined = refl }
in_signs (a ∷ []) h = record { signs = (a ∷ []) ∷ []; each = rw h; joined = refl }
in_signs (a ∷ b ∷ w) h = both (is_plain a) refl (in_signs (b ∷ w)) (in_signs w)
  where
    front : (s v : List ℕ) → is_sign s ≡ true → InSigns v → InSigns (s ++ v)
    front s v i r = record { signs = s ∷ r.signs; each = rw i r.each; joined = ap (λ u. s ++ u) r.joined }

    both : (t : Bool) → is_plain a ≡ t → (allowed_bytes (b ∷ w) ≡ true → InSigns (b ∷ w))
        → (allowed_bytes w ≡ true → InSigns w) → InSigns (a ∷ b ∷ w)
    both true t one two = front (a ∷ []) (b ∷ w) t (one (sym (first_sign a b w true t) ∙ h))
    both false t one two =
        let p = and_true_both (is_pair a b) (allowed_bytes w) (sym (first_sign a b w false t) ∙ h) in
        front (a ∷ b ∷ []) w p.0 (two p.1)

sign_allowed : (s : List ℕ) → is_sign s ≡ true → allowed_bytes s ≡ true
unfolding allowed_bytes
sign_allowed [] h = absurd (false≢true h)
sign_allowed (a ∷ []) h = h
sign_allowed (a ∷ b ∷ []) h =
    by_test (is_plain a)
    (λ t. absurd (false≢true (sym (plain_first a b t) ∙ h)))
    (λ t. first_sign a b [] false t ∙ rw h)
sign_allowed (a ∷ b ∷ c ∷ s) h = absurd (false≢true h)

pub of_signs : (w : List ℕ) → InSigns w → allowed_bytes w ≡ true
unfolding allowed_bytes
of_signs w r = ap allowed_bytes (sym r.joined) ∙ go r.signs r.each
  where
    go : (ss : List (List ℕ)) → all is_sign ss ≡ true → allowed_bytes (concat_map (λ s. s) ss) ≡ true
    go [] h = refl
    go (s ∷ ss) h =
        let a = and_true_both (is_sign s) (all is_sign ss) h in
        allowed_behind s (concat_map (λ s. s) ss) (sign_allowed s a.0) ∙ go ss a.1
