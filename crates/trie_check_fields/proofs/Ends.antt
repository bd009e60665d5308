-- The end of a group, node by node.
use Prim.Native.Nat.{suc, zero, ℕ}
use mathlib.Core.Path.{◌∙◌, ◌≡◌, ap, sym}
use mathlib.Core.Bool.{false, true}
use mathlib.Core.List.{List}
use lib.ListN.{length}
use native.Mathlib.Omega.{arith}
use Rattle.std.specs.Prelude.{None, Option, Some}
use Rattle.trie_check_laws.specs.Walk.{end_after, group_end, head_of}
use Rattle.trie_check_fields.specs.Known.{EndIs, EndKnown}
use Rattle.trie_check_fields.proofs.Heads.{Read}
use Rattle.trie_check_laws.specs.declared.Fields.{Fields}

pub end_cut : (s : List ℕ) (at : ℕ) {w : Option Fields} → w ≡ head_of s at → w ≡ None → EndIs s at None
unfolding group_end
end_cut s at e q zero lt = absurd (omega arith)
end_cut s at e q (suc k) lt = sym (ap (λ x. end_after x (group_end s k)) (sym e ∙ q))

module _ {s : List ℕ} {at : ℕ} {n : Fields} (r : Read s at n) where
  pub end_last : n.last ≡ true → EndIs s at (Some n.end)
  unfolding group_end
  end_last t zero lt = absurd (omega arith)
  end_last t (suc k) lt = sym (ap (λ x. end_after x (group_end s k)) r.head ∙ rw t)

  end_more : n.last ≡ false → {e : Option ℕ} → EndIs s n.end e → EndIs s at e
  unfolding group_end
  end_more t i zero lt = absurd (omega arith)
  end_more t i (suc k) lt =
      let p = r.past in
      let w = r.within in
      i k (omega arith) ∙ sym (ap (λ x. end_after x (group_end s k)) r.head ∙ rw t)

  further : (e : Option ℕ) → EndKnown e n.end (length s) → EndKnown e at (length s)
  further None w = tt
  further (Some e) w = (omega (arith, w.0, r.past), w.1)

-- The group at `at` ends where the rest of it from `from` on does.
abbrev pub EndsWith : List ℕ → ℕ → ℕ → Type 0
EndsWith s at from =
    (e : Option ℕ) → EndIs s from e → EndKnown e from (length s) → EndIs s at e × EndKnown e at (length s)

pub ends_on : {s : List ℕ} {at from : ℕ} {n : Fields} → EndsWith s at from → Read s from n → n.last ≡ false
    → EndsWith s at n.end
ends_on o r t e i w = o e (end_more r t i) (further r e w)
