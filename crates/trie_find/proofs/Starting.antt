-- Where the search starts in a buffer in which a trie is read.
use Prim.Native.Nat.{◌<◌, ℕ}
use mathlib.Core.Path.{◌∙◌, ◌≡◌, ap, refl, sym}
use mathlib.Core.Bool.{◌&&◌, false≢true, true}
use mathlib.Core.List.{List, [], ◌∷◌}
use mathlib.Core.Option.{Option, none, some}
use lib.ListN.{drop, length}
use native.Mathlib.Omega.{arith}
use Rattle.octets.specs.Octets.{be, begins, number_at}
use Rattle.octets.proofs.Numbers.{stands-number}
use Rattle.octets.proofs.Order.{begins-length}
use Rattle.octets.proofs.Tests.{and_true_both}
use Rattle.entries.specs.Entries.{Entry, valid}
use Rattle.entries.specs.Names.{longest_name}
use Rattle.entries.proofs.Valid.{valid_of}
use Rattle.frame.specs.Frame.{entries_of, framed, is_read}
use Rattle.frame.proofs.Frame.{framed-length, framed-parts}
use Rattle.trie.specs.Reading.{read_trie}
use Rattle.trie.specs.Trie.{group_of, highest, levels, trie_image}
use Rattle.trie.proofs.Trie.{trie_exact}
use Rattle.trie_find_laws.specs.Descend.{start_for}
use Rattle.trie_find_laws.specs.Places.{ForestAt, score_field_at, score_or}
use Rattle.trie_find_laws.specs.Planted.{plant}
use Rattle.trie_find_laws.specs.Search as search
use Rattle.trie_find_laws.specs.Search.{Forest, front_waits, tree}
use Rattle.trie_find_laws.proofs.Stands.{Field, InTrie, trie_stands}
use Rattle.trie_find_queue.specs.declared.NodeQueue.{NodeQueue}
use Rattle.trie_find_queue.specs.declared.WaitingNode.{WaitingNode}
use Rattle.trie_find_queue.specs.Waits.{waits}
use Rattle.trie_find_steps.specs.Steps.{FitsPath, arrive_at}
use Rattle.trie_find_turns.specs.Turns.{Reaches, StandAll, Toward, with_last}
use Rattle.trie_find_turns.proofs.Standing.{here_is, label_long}
use Rattle.trie_find.specs.Offers.{first_waits, in_trie, is_trie}

read_some : (o : Option (List Entry)) → is_read o ≡ true → o ≡ some (entries_of o)
read_some none h = absurd (false≢true h)
read_some (some es) h = refl

module _ (bs : List ℕ) (t : is_trie bs ≡ true) where
  read_sound : (valid (in_trie bs) ≡ true) × (begins (trie_image (in_trie bs)) bs ≡ true)
  read_sound = trie_exact.sound (in_trie bs) bs (read_some (read_trie bs) t)

  pub trie_valid : valid (in_trie bs) ≡ true
  trie_valid = read_sound.0

  -- the count in bytes 5 and 6
  trie_count : number_at 2 bs 5 ≡ length (in_trie bs)
  unfolding trie_image
  trie_count =
      let es = in_trie bs in
      let body = group_of levels (highest es) es in
      let s = read_sound.1 in
      let w = begins body (drop 7 bs) in
      let u = begins (be 2 (length es)) (drop 5 bs) && w in
      let v = begins (be 4 (length (framed 0x31 (length es) body))) (drop 1 bs) && u in
      let a = (and_true_both (begins (0x31 ∷ []) bs) v (sym (framed-parts 0x31 (length es) body bs) ∙ s)).1 in
      let b = (and_true_both (begins (be 4 (length (framed 0x31 (length es) body))) (drop 1 bs)) u a).1 in
      let c = and_true_both (begins (be 2 (length es)) (drop 5 bs)) w b in
      let l = begins-length (framed 0x31 (length es) body) bs s in
      let m = framed-length 0x31 (length es) body in
      let f = (valid_of es trie_valid).few in
      stands-number 2 bs 5 (length es) (omega arith) c.0 (omega arith)

  -- no entries: no node
  pub none_start : (p : List ℕ) → number_at 2 bs 5 ≡ 0 → (r : NodeQueue) → r.count ≡ 0 → Reaches bs (first_waits bs p) r
  unfolding first_waits
  none_start p h r n = go (in_trie bs) p (sym trie_count ∙ h)
    where
      go : (es : List Entry) (p : List ℕ) → length es ≡ 0 → Reaches bs (start_for p (plant levels es)) r
      go [] [] e = record { all = rw n tt; few = omega arith }
      go [] (b ∷ p) e = record { all = rw n tt; few = omega arith }
      go (x ∷ es) p e = absurd (omega arith)

  abbrev forest : Forest
  forest = plant levels (in_trie bs)

  module _ (h : number_at 2 bs 5 ≡ 0 → ⊥) where
    there : InTrie bs (in_trie bs)
    there = let c = trie_count in trie_stands bs (in_trie bs) trie_valid read_sound.1 (go (length (in_trie bs)) c)
      where
        go : (n : ℕ) → number_at 2 bs 5 ≡ n → 0 < n
        go n c = by_zero n (λ z. h (c ∙ z))
          where
            by_zero : (n : ℕ) → (n ≡ 0 → ⊥) → 0 < n
            by_zero n k = omega arith

    -- the first node can be read
    pub first_reached : FitsPath bs 0 7
    first_reached = go forest there.stands there.some
      where
        go : (f : Forest) → ForestAt bs [] 7 7 f → (f ≡ search.none → ⊥) → FitsPath bs 0 7
        go search.none s n = absurd (n refl)
        go (tree l s kids next) st n =
            let e = ap length (sym st.0.label) ∙ label_long bs 7 st.0.inside in
            let k = st.0.short in
            (st.0.inside, omega arith)

    module _ (path : List ℕ) (long : length path ≡ longest_name) where
      abbrev first : WaitingNode
      first = arrive_at bs path 0 (score_field_at bs 7) 7 7

      all_start : (r : NodeQueue) → waits r ≡ with_last first first.last ∷ [] → r.count ≡ 1
          → Reaches bs (first_waits bs []) r
      unfolding first_waits
      all_start r e n = record {
        all = rw e (go forest there.stands there.field there.some);
        few = omega arith;
      }
        where
          go : (f : Forest) → ForestAt bs [] 7 7 f → Field bs 7 (score_or 0 f) f → (f ≡ search.none → ⊥)
              → StandAll bs (first ∷ []) (front_waits [] f)
          go search.none st k m = absurd (m refl)
          go (tree l s kids next) st k m = (
            here_is bs path [] 0 (score_field_at bs 7) 7 7 l s kids next long refl refl k
                st,
            tt,
          )

      first_toward : (b : ℕ) (p : List ℕ) → Toward bs (b ∷ p) first (first_waits bs (b ∷ p))
      unfolding first_waits
      first_toward b p = go forest there.stands there.field there.some
        where
          go : (f : Forest) → ForestAt bs [] 7 7 f → Field bs 7 (score_or 0 f) f → (f ≡ search.none → ⊥)
              → Toward bs (b ∷ p) first (start_for (b ∷ p) f)
          go search.none st k m = absurd (m refl)
          go (tree l s kids next) st k m =
              record {
                q = [];
                l = l;
                s = s;
                kids = kids;
                next = next;
                is = here_is bs path [] 0 (score_field_at bs 7) 7 7 l s kids next long refl refl k st;
                leads = refl;
              }

      pub empty_start : (p : List ℕ) → length p ≡ 0 → (r : NodeQueue) → waits r ≡ with_last first first.last ∷ []
          → r.count ≡ 1 → Reaches bs (first_waits bs p) r
      empty_start [] h r e n = all_start r e n
      empty_start (b ∷ p) h r e n = absurd (omega arith)

      pub prefix_start : (p : List ℕ) → (length p ≡ 0 → ⊥) → Toward bs p first (first_waits bs p)
      prefix_start [] h = absurd (h refl)
      prefix_start (b ∷ p) h = first_toward b p
