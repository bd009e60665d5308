-- The entries offered so far and those that the search still offers are the completion.
use Prim.Native.Nat.{◌*◌, ◌+◌, ◌-◌, ◌<◌, ◌≤◌, suc, zero, ℕ}
use mathlib.Core.Path.{◌∙◌, ◌≡◌, ap, refl, subst, sym}
use mathlib.Core.Bool.{true}
use mathlib.Core.List.{List, [], ◌++◌, ◌∷◌, append_assoc, append-nil}
use lib.ListN.{drop, get_or, length, length-append, length-take}
use lib.Seq.{drop-cons, get_or-take, length-sets, length-take-le, sets}
use native.Mathlib.Omega.{arith}
use Rattle.octets.specs.Lists.{concat_map}
use Rattle.octets.proofs.Stores.{sets-append, sets-overwrite}
use Rattle.entries.specs.Completion.{completion, max_count}
use Rattle.entries.specs.Entries.{Entry, entry}
use Rattle.answer.specs.Answers.{entries_bytes, entry_bytes, given}
use Rattle.answer.proofs.Entries.{length-entry_bytes}
use Rattle.completion.specs.Complete.{entry_room}
use Rattle.trie_find_laws.specs.Search as search
use Rattle.trie_find_laws.specs.Search.{search_offers, wait}
use Rattle.trie_find_laws.proofs.Descend.{start_offers}
use Rattle.trie_find_queue.specs.declared.NodeQueue.{NodeQueue}
use Rattle.trie_find_queue.specs.declared.WaitingNode.{WaitingNode}
use Rattle.trie_find_queue.specs.Waits.{known_of, nowhere, waits}
use Rattle.trie_find_turns.specs.declared.TrieTurn.{TrieTurn}
use Rattle.trie_find_turns.specs.Turns.{Reaches, SomeTodo, StandAll, Todo, TurnMatches}
use Rattle.trie_find_turns.proofs.Turning.{all-length}
use Rattle.trie_find.specs.Offers.{Gives, OffersWritten, TurnGiven, TurnReady, first_waits, in_trie, is_trie, offer_of}
use Rattle.trie_find.specs.Offers.{turn_of}
use Rattle.trie_find.proofs.Starting.{trie_valid}

-- the first of the nodes that wait, and the others
pub first_and_rest : (q : NodeQueue) → length q.nodes ≡ max_count → 0 < q.count → q.count ≤ max_count
    → waits q ≡ get_or q.nodes 0 nowhere ∷ drop 1 (waits q)
first_and_rest q l h k =
    let a = length-take-le q.count q.nodes (omega arith) in
    drop-cons (waits q) 0 nowhere (omega arith)
    ∙ ap (λ x. x ∷ drop 1 (waits q)) (get_or-take q.count q.nodes 0 nowhere h)

module _ (bs : List ℕ) (most : ℕ) (x : WaitingNode) (q o : NodeQueue) (first : waits q ≡ x
    ∷ drop 1 (waits q)) (others : waits o ≡ drop 1 (waits q)) (few : o.count ≤ most) where
  turn_todo : (w : search.WaitingForest) (ws : List search.WaitingForest) → StandAll bs (waits q) (w ∷ ws)
      → Todo bs most x o (turn_of most w ws)
  turn_todo (wait p l s kids next) ws a =
      let b : StandAll bs (x ∷ drop 1 (waits q)) (wait p l s kids next ∷ ws) = rw first at a in
      record {
        p = p;
        l = l;
        s = s;
        kids = kids;
        next = next;
        ws = ws;
        is = b.0;
        all = rw others b.1;
        few = few;
        turn = refl;
      }

  pub turn_gives : (ws : List search.WaitingForest) → StandAll bs (waits q) ws → (r : TrieTurn)
      → ((t : search.ForestTurn) → Todo bs most x o t → TurnMatches bs most t r) → Gives bs most ws r
  turn_gives [] a r g = absurd (rw first at a)
  turn_gives (w ∷ ws) a r g = record {
    first = w;
    others = ws;
    split = refl;
    done = g (turn_of most w ws) (turn_todo w ws a);
  }

  pub some_todo : (ws : List search.WaitingForest) → StandAll bs (waits q) ws → most ≤ max_count → SomeTodo bs most x o
  some_todo [] a m = absurd (rw first at a)
  some_todo (w ∷ ws) a m = record { t = turn_of most w ws; todo = turn_todo w ws a; most_few = m }

-- entries as bytes, with one more
bytes_more : (es : List Entry) (e : Entry) → entries_bytes (es ++ (e ∷ [])) ≡ entries_bytes es ++ entry_bytes e
unfolding entries_bytes
bytes_more [] e = append-nil (entry_bytes e)
bytes_more (f ∷ es) e = ap (λ w. entry_bytes f ++ w) (bytes_more es e)
    ∙ sym (append_assoc (entry_bytes f) (concat_map entry_bytes es) (entry_bytes e))

bytes_none : entries_bytes [] ≡ []
unfolding entries_bytes
bytes_none = refl

-- the search: so many are offered, and their bytes stand at the front of the destination
pub record TrieOffering (bs p : List ℕ) (k : ℕ) (before after : List ℕ) (q : NodeQueue) (offered bytes : ℕ) : Type 0
  where
    pub done : List Entry
    pub ws : List search.WaitingForest
    pub list : done ++ search_offers (k - offered) ws ≡ completion (in_trie bs) p k
    pub number : length done ≡ offered
    pub upto : offered ≤ k
    pub size : bytes ≡ length (entries_bytes done)
    pub room : bytes ≤ entry_room * offered
    pub stored : after ≡ sets before 0 (entries_bytes done)
    pub all : StandAll bs (waits q) ws
    pub few : q.count ≤ k - offered

first_offers : (bs p : List ℕ) (k : ℕ) → is_trie bs ≡ true
    → search_offers k (first_waits bs p) ≡ completion (in_trie bs) p k
unfolding first_waits
first_offers bs p k t = start_offers (in_trie bs) p k (trie_valid bs t)

pub offering_start :
    (bs p : List ℕ) (k : ℕ) (dst : List ℕ) (q : NodeQueue) → is_trie bs ≡ true → 1 ≤ k → Reaches bs (first_waits bs p) q
    → TrieOffering bs p k dst dst q 0 0
offering_start bs p k dst q t h r =
    let z : k - 0 ≡ k = omega arith in
    let f = r.few in
    record {
      done = [];
      ws = first_waits bs p;
      list = rw z (first_offers bs p k t);
      number = refl;
      upto = omega arith;
      size = ap length (sym bytes_none);
      room = omega arith;
      stored = ap (sets dst 0) (sym bytes_none);
      all = r.all;
      few = omega arith;
    }

module _ (bs p : List ℕ) (k : ℕ) (before after : List ℕ) (q : NodeQueue) (offered bytes : ℕ)
    (v : TrieOffering bs p k before after q offered bytes) where
  pub offering_ready : offered < k → k ≤ max_count → 0 < q.count → TurnReady bs q (k - offered - 1)
  offering_ready h m n = let f = v.few in
      record { ws = v.ws; all = v.all; some = n; few = omega arith; most_few = omega arith }

  -- room for one more entry
  pub offering_room : offered < k → entry_room * k ≤ length before → bytes + entry_room ≤ length after
  offering_room h m =
      let r = v.room in
      let l = ap length v.stored ∙ length-sets before 0 (entries_bytes v.done) in
      omega arith

  pub offering-length : length after ≡ length before
  offering-length = ap length v.stored ∙ length-sets before 0 (entries_bytes v.done)

  -- the list is complete
  ended : search_offers (k - offered) v.ws ≡ [] → v.done ≡ completion (in_trie bs) p k
  ended e = sym (append-nil v.done) ∙ ap (λ w. v.done ++ w) (sym e) ∙ v.list

  answered : v.done ≡ completion (in_trie bs) p k → entry_room * k ≤ length before
      → OffersWritten (completion (in_trie bs) p k) before (offer_of offered bytes) after
  answered e room =
      let s = v.size in
      let r = v.room in
      let u = v.upto in
      rw (← e)
      (record {
        answer = (λ i. given (record { offered = sym v.number i; bytes = v.size i; looks = 0 }));
        written = v.stored ∙ sets-overwrite before (entries_bytes v.done) (omega arith);
      })

  offers_none : (n : ℕ) → search_offers n [] ≡ []
  offers_none zero = refl
  offers_none (suc n) = refl

  pub offering-full : k ≤ offered → entry_room * k ≤ length before
      → OffersWritten (completion (in_trie bs) p k) before (offer_of k bytes) after
  offering-full h room =
      let z : k - offered ≡ 0 = omega arith in
      let e : offered ≡ k = omega (arith, v.upto) in
      subst (λ n. OffersWritten (completion (in_trie bs) p k) before (offer_of n bytes) after) e
      (answered (ended (ap (λ n. search_offers n v.ws) z)) room)

  pub offering-none : q.count ≡ 0 → entry_room * k ≤ length before
      → OffersWritten (completion (in_trie bs) p k) before (offer_of offered bytes) after
  offering-none h room =
      let l = all-length bs (waits q) v.ws v.all in
      let a = length-take q.count q.nodes in
      answered (ended (go v.ws (omega arith))) room
    where
      go : (ws : List search.WaitingForest) → length ws ≡ 0 → search_offers (k - offered) ws ≡ []
      go [] e = offers_none (k - offered)
      go (w ∷ ws) e = absurd (omega arith)

  -- one turn more
  module _ (h : offered < k) (r : TrieTurn) (after' : List ℕ) (bytes' : ℕ) where
    abbrev most : ℕ
    most = k - offered - 1

    offered_next : (w : search.WaitingForest) (ws : List search.WaitingForest)
        → search_offers (suc most) (w ∷ ws) ≡ (turn_of most w ws).offered ∷ search_offers most (turn_of most w ws).waits
    offered_next (wait p' l s kids next) ws = refl

    leaf_entry : (t : search.ForestTurn) → TurnMatches bs most t r → known_of r.leaf ≡ t.offered
    leaf_entry t d = λ i. entry (d.name i) (d.score i)

    leaf_room : (t : search.ForestTurn) → TurnMatches bs most t r → length (entry_bytes t.offered) ≤ entry_room
    leaf_room t d =
        let a = length-entry_bytes t.offered in
        let b = ap length d.name in
        let c = length-take r.leaf.len r.leaf.path in
        let e = d.short in
        omega arith

    one_more_lem :
        (w : search.WaitingForest) (ws : List search.WaitingForest) → v.ws ≡ w ∷ ws
        → TurnMatches bs most (turn_of most w ws) r
        → after' ≡ sets after bytes (entry_bytes (known_of r.leaf))
        → bytes' ≡ bytes + length (entry_bytes (known_of r.leaf))
        → TrieOffering bs p k before after' r.queue (offered + 1) bytes'
    one_more_lem w ws e d st sz =
        let t = turn_of most w ws in
        let x = t.offered in
        let le = leaf_entry t d in
        let lr = leaf_room t d in
        let a : k - offered ≡ suc most = omega arith in
        let b : k - (offered + 1) ≡ most = omega arith in
        let list : v.done ++ (x ∷ search_offers most t.waits) ≡ completion (in_trie bs) p k =
        ap (λ y. v.done ++ y) (sym (offered_next w ws)) ∙ ap (λ y. v.done ++ search_offers (suc most) y) (sym e)
        ∙ ap (λ n. v.done ++ search_offers n v.ws) (sym a) ∙ v.list
        in
        let more = bytes_more v.done x in
        let m = ap length more in
        let n = length-append (entries_bytes v.done) (entry_bytes x) in
        let sl = ap (λ y. length (entry_bytes y)) le in
        let o = v.size in
        let u = v.room in
        let num = v.number in
        let al = length-append v.done (x ∷ []) in
        let f = d.few in
        let place : bytes ≡ 0 + length (entries_bytes v.done) = omega arith in
        record {
          done = v.done ++ (x ∷ []);
          ws = t.waits;
          list = rw b (append_assoc v.done (x ∷ []) (search_offers most t.waits) ∙ list);
          number = omega arith;
          upto = omega arith;
          size = omega arith;
          room = omega arith;
          stored =
              st
              ∙ ap (λ y. sets after bytes (entry_bytes y)) le
              ∙ ap (λ y. sets y bytes (entry_bytes x)) v.stored
              ∙ ap (λ i. sets (sets before 0 (entries_bytes v.done)) i (entry_bytes x)) place
              ∙ sets-append before (entries_bytes v.done) (entry_bytes x) 0
              ∙ ap (sets before 0) (sym more);
          all = d.all;
          few = rw b f;
        }

    pub offering_on :
        TurnGiven bs q most r → after' ≡ sets after bytes (entry_bytes (known_of r.leaf))
        → bytes' ≡ bytes + length (entry_bytes (known_of r.leaf))
        → TrieOffering bs p k before after' r.queue (offered + 1) bytes'
    offering_on g st sz = let y = g v.ws v.all in one_more_lem y.first y.others y.split y.done st sz
