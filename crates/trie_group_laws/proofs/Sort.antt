-- Sorting by a strict total order: a sorted list stays, and the order before does not matter.
use mathlib.Core.Path.{◌∙◌, ◌≡◌, ap, refl, sym}
use mathlib.Core.Logic.{◌⊎◌, inl, inr}
use mathlib.Core.Bool.{Bool, false, false≢true, true}
use mathlib.Core.List.{List, [], ◌∷◌}
use Rattle.octets.proofs.Lists.{sort_in}
use Rattle.octets.proofs.Tests.{by_test}
use Rattle.octets.specs.Lists.{◌∈◌, insert_by, sort_by}

-- a strict order in which what is not below is above, in the weak sense
pub record Order {A : Type 0} (r : A → A → Bool) : Type 0 where
  pub asym : (x y : A) → r x y ≡ true → r y x ≡ false
  pub weak : (x y z : A) → r x y ≡ false → r y z ≡ false → r x z ≡ false

module _ {A : Type 0} (r : A → A → Bool) where
  -- neighbours stand in order
  abbrev pub chain : List A → Type 0
  chain [] = Unit {0}
  chain (x ∷ []) = Unit {0}
  chain (x ∷ y ∷ ys) = (r x y ≡ true) × chain (y ∷ ys)

  pub chain_tail : (x : A) (xs : List A) → chain (x ∷ xs) → chain xs
  chain_tail x [] c = tt
  chain_tail x (y ∷ ys) c = c.1

  -- one of two stands before the other
  abbrev pub parted : A → A → Type 0
  parted x y = (r x y ≡ true) ⊎ (r y x ≡ true)

  abbrev pub all_parted : List A → Type 0
  all_parted [] = Unit {0}
  all_parted (x ∷ xs) = ((y : A) → y ∈ xs → parted x y) × all_parted xs

module _ {A : Type 0} {r : A → A → Bool} (o : Order r) where
  pub sort_fixed : (xs : List A) → chain r xs → sort_by r xs ≡ xs
  sort_fixed [] c = refl
  sort_fixed (x ∷ []) c = refl
  sort_fixed (x ∷ y ∷ ys) c =
      let ih = sort_fixed (y ∷ ys) c.1 in
      ap (insert_by r x) ih ∙ rw (o.asym x y c.0)

  parted_flip : (x y : A) → parted r x y → (r x y ≡ true → r y x ≡ false) × (r x y ≡ false → r y x ≡ true)
  parted_flip x y (inl a) = (λ t. o.asym x y t, λ t. absurd (false≢true (sym t ∙ a)))
  parted_flip x y (inr a) = (λ t. absurd (false≢true (sym (o.asym y x a) ∙ t)), λ t. a)

  -- y before a and not before b: b before a
  between : (y a b : A) → r y a ≡ true → r y b ≡ false → r b a ≡ true
  between y a b h k = by_test (r b a) (λ t. t) (λ t. absurd (false≢true (sym (o.weak y b a k t) ∙ h)))

  swap : (a b : A) (ys : List A) → parted r a b → insert_by r a (insert_by r b ys) ≡ insert_by r b (insert_by r a ys)
  swap a b [] p =
      let q = parted_flip a b p in
      by_test (r a b) (λ t. rw (t, q.0 t)) (λ t. rw (t, q.1 t))
  swap a b (y ∷ ys) p =
      let q = parted_flip a b p in
      let ih = swap a b ys p in
      by_test (r y a)
      (λ ya. by_test (r y b)
      (λ yb. rw (ya, yb, ya) (ap (λ l. y ∷ l) ih))
      (λ yb. rw (ya, yb, between y a b ya yb, ya)))
      (λ ya. by_test (r y b)
      (λ yb. rw (ya, yb, between y b a yb ya, ya))
      (λ yb. by_test (r a b)
      (λ t. rw (ya, yb, t, q.0 t))
      (λ t. rw (ya, yb, t, q.1 t, ya))))

  sort-insert : (s : A → A → Bool) (x : A) (ys : List A) → ((y : A) → y ∈ ys → parted r x y)
      → sort_by r (insert_by s x ys) ≡ insert_by r x (sort_by r ys)
  sort-insert s x [] p = refl
  sort-insert s x (y ∷ ys) p =
      by_test (s y x)
      (λ t. rw t (ap (insert_by r y) (sort-insert s x ys (λ z m. p z (inr m)))
      ∙ sym (swap x y (sort_by r ys) (p y (inl refl)))))
      (λ t. rw t)

  pub sort-sort : (s : A → A → Bool) (xs : List A) → all_parted r xs → sort_by r (sort_by s xs) ≡ sort_by r xs
  sort-sort s [] p = refl
  sort-sort s (x ∷ xs) p =
      sort-insert s x (sort_by s xs) (λ y m. p.0 y (sort_in s y xs m)) ∙ ap (insert_by r x) (sort-sort s xs p.1)

  chain_after : (y x : A) (ys : List A) → r y x ≡ true → chain r (y ∷ ys) → chain r (insert_by r x ys)
      → chain r (y ∷ insert_by r x ys)
  chain_after y x [] h c k = (h, k)
  chain_after y x (z ∷ zs) h c k = by_test (r z x) (λ t. rw t (c.0, rw t at k)) (λ t. rw t (h, rw t at k))

  chain_insert : (x : A) (ys : List A) → ((y : A) → y ∈ ys → parted r x y) → chain r ys → chain r (insert_by r x ys)
  chain_insert x [] p c = tt
  chain_insert x (y ∷ ys) p c =
      let ih = chain_insert x ys (λ z m. p z (inr m)) (chain_tail r y ys c) in
      by_test (r y x)
      (λ t. rw t (chain_after y x ys t c ih))
      (λ t. rw t ((parted_flip y x (flip (p y (inl refl)))).1 t, c))
    where
      flip : {a b : A} → parted r a b → parted r b a
      flip (inl h) = inr h
      flip (inr h) = inl h

  pub sort_chain : (xs : List A) → all_parted r xs → chain r (sort_by r xs)
  sort_chain [] p = tt
  sort_chain (x ∷ xs) p = chain_insert x (sort_by r xs) (λ y m. p.0 y (sort_in r y xs m)) (sort_chain xs p.1)
