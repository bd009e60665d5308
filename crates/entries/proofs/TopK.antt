-- The completion is problem 1.2's answer, and the only one.
use Prim.Native.Nat.{min, suc, zero, ℕ}
use mathlib.Core.Path.{◌∙◌, ◌≡◌, ap, refl, sym}
use mathlib.Core.Logic.{inl, inr}
use mathlib.Core.Bool.{false, false≢true, true}
use mathlib.Core.List.{List, [], ◌∷◌}
use lib.ListN.{length, length-take, take}
use native.Mathlib.Omega.{arith}
use Rattle.octets.specs.Lists.{◌∈◌}
use Rattle.octets.proofs.Lists.{keep_every, sort-length, take_in}
use Rattle.octets.proofs.Sorted.{sorted}
use Rattle.octets.proofs.Tests.{and_intro, and_true_both, by_test}
use Rattle.entries.specs.Completion.{TopK, begun, completion, different, in_rank, matches}
use Rattle.entries.specs.Entries.{Entry, by_rank, outranks, rising}
use Rattle.entries.proofs.BestList.{ranked, ranked_different, ranked_in, ranked_matches}
use Rattle.entries.proofs.Rank.{outranks_asym, outranks_irrefl, outranks_total, outranks_trans, rank_sorted}

-- every entry outranks all behind it
abbrev strict : List Entry → Type 0
strict [] = Unit {0}
strict (e ∷ es) = ((f : Entry) → f ∈ es → outranks e f ≡ true) × strict es

strict_sorted : (es : List Entry) → sorted outranks es → different es → strict es
strict_sorted [] h d = tt
strict_sorted (e ∷ es) h d = ((λ f m. first f m), strict_sorted es h.1 d.1)
  where
    first : (f : Entry) → f ∈ es → outranks e f ≡ true
    first f m =
        by_test (outranks e f) (λ t. t)
        (λ t. absurd (d.0 f m (ap (λ x. x.name) (outranks_total e f t (h.0 f m)))))

strict_take : (k : ℕ) (es : List Entry) → strict es → strict (take k es)
strict_take zero es s = tt
strict_take (suc k) [] s = tt
strict_take (suc k) (e ∷ es) s = ((λ f m. s.0 f (take_in k f es m)), strict_take k es s.1)

-- the same as in rank, place by place
rank_strict : (es : List Entry) → in_rank es ≡ true → strict es
rank_strict [] h = tt
rank_strict (e ∷ []) h = ((λ f m. absurd m), tt)
rank_strict (e ∷ f ∷ es) h =
    let a = and_true_both (outranks e f) (in_rank (f ∷ es)) h in
    let ih = rank_strict (f ∷ es) a.1 in
    ((λ g m. later a.0 ih.0 g m), ih)
  where
    later : outranks e f ≡ true → ((g : Entry) → g ∈ es → outranks f g ≡ true) → (g : Entry) → g ∈ (f ∷ es)
        → outranks e g ≡ true
    later a s g (inl q) = rw q a
    later a s g (inr m) = outranks_trans e f g a (s g m)

strict_rank : (es : List Entry) → strict es → in_rank es ≡ true
strict_rank [] s = refl
strict_rank (e ∷ []) s = refl
strict_rank (e ∷ f ∷ es) s =
    and_intro (outranks e f) (in_rank (f ∷ es)) (s.0 f (inl refl)) (strict_rank (f ∷ es) s.1)

-- none of those taken is outranked by one that is left
take-highest :
    (k : ℕ) (s : List Entry) → strict s → (e : Entry) → e ∈ s → (e ∈ take k s → ⊥) → (f : Entry) → f ∈ take k s
    → outranks f e ≡ true
take-highest zero s st e m out f n = absurd n
take-highest (suc k) [] st e m out f n = absurd n
take-highest (suc k) (x ∷ s) st e (inl q) out f n = absurd (out (inl q))
take-highest (suc k) (x ∷ s) st e (inr m) out f (inl q) = rw q (st.0 e m)
take-highest (suc k) (x ∷ s) st e (inr m) out f (inr n) = take-highest k s st.1 e m (λ i. out (inr i)) f n

no_self : (e f : Entry) → e ≡ f → outranks e f ≡ true → ⊥
no_self e f q h = false≢true (sym (outranks_irrefl f) ∙ (rw q at h))

no_both : (e f : Entry) → outranks e f ≡ true → outranks f e ≡ true → ⊥
no_both e f h k = false≢true (sym (outranks_asym e f h) ∙ k)

-- a list in rank, of as many entries of s as k or all, that outrank the others of s, is what is taken from s
taken :
    (k : ℕ) (s l : List Entry) → strict s → strict l → ((e : Entry) → e ∈ l → e ∈ s)
    → length l ≡ min k (length s)
    → ((e : Entry) → e ∈ s → (e ∈ l → ⊥) → (f : Entry) → f ∈ l → outranks f e ≡ true) → l ≡ take k s
taken zero s [] ss sl within n high = refl
taken zero s (e ∷ l) ss sl within n high = absurd (omega arith)
taken (suc k) [] [] ss sl within n high = refl
taken (suc k) [] (e ∷ l) ss sl within n high = absurd (within e (inl refl))
taken (suc k) (b ∷ s) [] ss sl within n high = absurd (omega arith)
taken (suc k) (b ∷ s) (e ∷ l) ss sl within n high =
    let q : e ≡ b = same_first_lem (within e (inl refl)) in
    let t : l ≡ take k s =
    taken k s l ss.1 sl.1 (λ f m. still q f m (within f (inr m))) (omega arith)
    (λ f m out g i. high f (inr m) (λ j. away q f m out j) g (inr i))
    in
    cc
  where
    -- the first is the best of all: it is in s, and were it not b then b would be left out and outranked by it
    same_first_lem : e ∈ (b ∷ s) → e ≡ b
    same_first_lem (inl q) = q
    same_first_lem (inr m) = absurd (no_both b e (ss.0 e m) (high b (inl refl) out e (inl refl)))
      where
        out : b ∈ (e ∷ l) → ⊥
        out (inl q) = no_self b e q (ss.0 e m)
        out (inr n) = no_both b e (ss.0 e m) (sl.0 b n)

    still : e ≡ b → (f : Entry) → f ∈ l → f ∈ (b ∷ s) → f ∈ s
    still q f m (inl r) = absurd (no_self e f (q ∙ sym r) (sl.0 f m))
    still q f m (inr i) = i

    away : e ≡ b → (f : Entry) → f ∈ s → (f ∈ l → ⊥) → f ∈ (e ∷ l) → ⊥
    away q f m out (inl r) = no_self b f (sym (r ∙ q)) (ss.0 f m)
    away q f m out (inr i) = out i

module _ (es : List Entry) (p : List ℕ) (k : ℕ) (r : rising es ≡ true) where
  abbrev order : List Entry
  order = ranked es p k r

  order_strict : strict order
  order_strict = strict_sorted order (rank_sorted (matches p es)) (ranked_different es p k r)

  -- the completion is such an answer
  pub top_k_lem : TopK es p k (completion es p k)
  unfolding completion
  top_k_lem =
      record {
        among = λ e m. ranked_matches es p k r e (take_in k e order m);
        ranked = strict_rank (take k order) (strict_take k order order_strict);
        many = length-take k order ∙ ap (min k) (sort-length outranks (matches p es));
        highest = λ e m b out f n. take-highest k order order_strict e (ranked_in es p k r e m b) out f n;
      }

  -- and the only one
  pub top_k_only : (l : List Entry) → TopK es p k l → l ≡ completion es p k
  unfolding completion
  top_k_only l t =
      taken k order l order_strict (rank_strict l t.ranked)
      (λ e m. let a = t.among e m in ranked_in es p k r e a.0 a.1)
      (t.many ∙ ap (min k) (sym (sort-length outranks (matches p es))))
      (λ e m out f n. let o = ranked_matches es p k r e m in t.highest e o.0 o.1 out f n)

-- all entries of a book, in rank
pub in_rank_lem : (es : List Entry) → rising es ≡ true → in_rank (by_rank es) ≡ true
in_rank_lem es r =
    let every = keep_every (begun []) es (λ e m. refl) in
    let ranks : in_rank (by_rank (matches [] es)) ≡ true = strict_rank (order es [] 0 r) (order_strict es [] 0 r) in
    rw every at ranks
