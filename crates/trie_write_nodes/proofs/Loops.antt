-- Measuring and putting the nodes of a group one by one, and a group's own bytes from both.
use Prim.Native.Nat.{◌*◌, ◌+◌, ◌-◌, ◌<◌, ◌≤◌, ℕ}
use mathlib.Core.Path.{◌∙◌, ◌≡◌, ap, refl, sym}
use mathlib.Core.Bool.{Bool, false, true}
use mathlib.Core.List.{List, [], ◌++◌, ◌∷◌}
use lib.Dec.{eqb, ltb}
use lib.ListN.{drop, drop_of_length-le, get_or, length, length-append, length-drop}
use lib.Seq.{length-sets, sets}
use native.Mathlib.Omega.{arith}
use borrow.Author.Tests.{eqb-false, eqb-true, ltb-false, ltb-true}
use Rattle.octets.proofs.Stores.{sets-append}
use Rattle.octets.proofs.Tests.{by_test}
use Rattle.trie.specs.Trie.{longest_label}
use Rattle.trie_write_runs.specs.declared.NodeFields.{NodeFields}
use Rattle.trie_write_runs.specs.declared.Run.{Run}
use Rattle.trie_write_runs.specs.Runs.{Each, ends_here, first_high, most_runs, no_run}
use Rattle.trie_write_runs.specs.Fields.{after, first_fields, node_length, plain_fields}
use Rattle.trie.proofs.Header.{own_size_most}
use Rattle.trie_write_runs.proofs.Fields.{after_size}
use Rattle.trie_write_runs.proofs.Runs.{each_drop, each_map, falls_drop, next_run}
use Rattle.trie_write_nodes.specs.Nodes.{AllFit, Finished, Finishing, Measurable, OneFits, RunFits, RunsFit}
use Rattle.trie_write_nodes.specs.Nodes.{group_own_bytes, nodes_bytes, nodes_length, one_node, put_if}
use Rattle.trie_write_nodes.proofs.Bytes.{length-one_node}

-- measured so far, with the nodes left measured now, is the whole
pub record NodesSizing (rs : List Run) (first f : NodeFields) (sum i : ℕ) : Type 0 where
  pub upto : i ≤ length rs
  pub rest : sum + nodes_length f (drop i rs) ≡ nodes_length first rs
  pub low : sum ≤ 16 * i
  pub size : f.size ≤ 4

pub sizing_start : {rs : List Run} {first : NodeFields} → Measurable rs first → NodesSizing rs first first 0 0
sizing_start z = record { upto = omega arith; rest = omega arith; low = omega arith; size = z.size }

module _
    {rs : List Run} {first : NodeFields} (z : Measurable rs first) {f : NodeFields} {sum i : ℕ}
    (v : NodesSizing rs first f sum i)
  where
    module _ (more : i < length rs) where
      abbrev here : Run
      here = get_or rs i no_run

      pub here_short : here.len ≤ longest_label
      here_short = (rw (next_run rs i more) at (each_drop (λ r. r.len ≤ longest_label) rs i z.short)).0

      pub here_falls : first_high (drop (i + 1) rs) ≤ here.high
      here_falls = (rw (next_run rs i more) at (falls_drop rs i z.falls)).0

      pub sizing_turn :
          {m s : ℕ} {g : NodeFields} → (m ≡ node_length here f) × (m ≤ 16) → s ≡ first_high (drop (i + 1) rs)
          → g ≡ after here f s → NodesSizing rs first g (sum + m) (i + 1)
      sizing_turn {s = s} q t w =
          let a : sum + nodes_length f (here ∷ drop (i + 1) rs) ≡ nodes_length first rs = rw (next_run rs i more) at
          v.rest in
          record {
            upto = omega arith;
            rest = rw (w, t, q.0) (omega (arith, a));
            low = omega (arith, v.low, q.1);
            size = rw w (after_size here f s v.size);
          }

    pub sizing_end :
        length rs ≤ most_runs → length rs ≤ i → (sum ≡ nodes_length first rs) × (sum ≤ most_runs * 16)
    sizing_end few h =
        let a : sum + nodes_length f [] ≡ nodes_length first rs = rw (drop_of_length-le rs {i = i} h) at v.rest in
        (omega (arith, a), omega (arith, v.low, v.upto))

-- put so far, with the nodes left put now, is the whole
pub record Putting (names : List ℕ) (d : ℕ) (rs : List Run) (first : NodeFields) (dst₀ : List ℕ) (start : ℕ)
    (f : NodeFields)
    (at i : ℕ) (dst : List ℕ) : Type 0 where
  pub upto : i ≤ length rs
  pub long : length dst ≡ length dst₀
  pub small : f.size ≤ 4
  pub room : at + nodes_length f (drop i rs) ≤ length dst₀
  pub bytes : sets dst at (nodes_bytes names d f (drop i rs)) ≡ sets dst₀ start
      (nodes_bytes names d first rs)

pub length-nodes_bytes :
    (names : List ℕ) (d : ℕ) (f : NodeFields) (rs : List Run) → Each (RunFits (length names) d) rs
    → length (nodes_bytes names d f rs) ≡ nodes_length f rs
length-nodes_bytes names d f [] e = refl
length-nodes_bytes names d f (r ∷ rs) e =
    omega (
      arith,
      length-one_node names d r f (ends_here rs) e.0,
      length-nodes_bytes names d (after r f (first_high rs)) rs e.1,
      length-append (one_node names d r f (ends_here rs)) (nodes_bytes names d (after r f (first_high rs)) rs),
    )

pub putting_start :
    {names : List ℕ} {d : ℕ} {rs : List Run} {first : NodeFields} {dst : List ℕ} {start : ℕ}
    → AllFit (length names) d rs first (length dst) start → Putting names d rs first dst start first start 0 dst
putting_start z = record { upto = omega arith; long = refl; small = z.small; room = z.room; bytes = refl }

ends_here_lem : (rs : List Run) (b : Bool) → (b ≡ true → length rs ≡ 0) → (b ≡ false → 0 < length rs) → ends_here rs ≡ b
ends_here_lem [] true h k = refl
ends_here_lem [] false h k = absurd (let z = k refl in omega arith)
ends_here_lem (r ∷ rs) true h k = absurd (let z = h refl in omega arith)
ends_here_lem (r ∷ rs) false h k = refl

module _
    {names : List ℕ} {d : ℕ} {rs : List Run} {first : NodeFields} {dst₀ : List ℕ} {start : ℕ}
    (z : AllFit (length names) d rs first (length dst₀) start) {f : NodeFields} {at i : ℕ} {dst : List ℕ}
    (v : Putting names d rs first dst₀ start f at i dst)
  where
    module _ (more : i < length rs) where
      abbrev node : Run
      node = get_or rs i no_run

      abbrev later : List Run
      later = drop (i + 1) rs

      pub node_sound : RunFits (length names) d node
      node_sound = (rw (next_run rs i more) at (each_drop (RunFits (length names) d) rs i z.able.each)).0

      pub node_falls : first_high later ≤ node.high
      node_falls = (rw (next_run rs i more) at (falls_drop rs i z.able.falls)).0

      room_here : at + (node_length node f + nodes_length (after node f (first_high later)) later) ≤ length dst₀
      room_here = rw (next_run rs i more) at v.room

      pub node_fits : OneFits (length names) d node f (length dst) at
      node_fits = record { sound = node_sound; small = v.small; room = omega (arith, room_here, v.long) }

      pub node_room : {m : ℕ} → m ≡ node_length node f → at + m ≤ length dst₀
      node_room e = rw e (omega (arith, room_here))

      -- the last of the siblings is the one behind which none is held
      last_mark_lem : {b : Bool} → b ≡ eqb (i + 1) (length rs) → ends_here later ≡ b
      last_mark_lem {b} e =
          let m = length-drop (i + 1) rs in
          ends_here_lem later b (λ t. let q = eqb-true (i + 1) (length rs) (sym e ∙ t) in omega (arith, q))
          (λ t.
          by_test (ltb (i + 1) (length rs)) (λ u. let w = ltb-true (i + 1) (length rs) u in omega (arith, w))
          (λ u. absurd (eqb-false (i + 1) (length rs) (sym e ∙ t) (let w = ltb-false (i + 1) (length rs) u in omega (arith, w)))))

      pub putting_turn :
          {m s : ℕ} {b : Bool} {g : NodeFields} {out : List ℕ} → m ≡ node_length node f → s ≡ first_high later
          → g ≡ after node f s → b ≡ eqb (i + 1) (length rs) → out ≡ sets dst at (one_node names d node f b)
          → Putting names d rs first dst₀ start g (at + m) (i + 1) out
      putting_turn {m} {s} {b} {g} {out} e q w y o =
          let rest = nodes_bytes names d (after node f (first_high later)) later in
          let bytes : sets dst at (one_node names d node f (ends_here later)
          ++ rest) ≡ sets dst₀ start (nodes_bytes names d first rs) = rw (next_run rs i more) at v.bytes
          in
          let l = length-one_node names d node f b node_sound in
          record {
            upto = omega arith;
            long = ap length o ∙ length-sets dst at (one_node names d node f b) ∙ v.long;
            small = rw w (after_size node f s v.small);
            room = rw (w, q, e) (omega (arith, room_here));
            bytes = rw (
              w,
              q,
              o,
              e,
              ← l,
              sets-append dst (one_node names d node f b) rest at,
            ) (rw (last_mark_lem y) at bytes);
          }

    pub putting_end : length rs ≤ i → dst ≡ sets dst₀ start (nodes_bytes names d first rs)
    putting_end h = rw (drop_of_length-le rs {i = i} h) at v.bytes

-- a group's own bytes: the fields of the first are chosen by the bytes of the others
pub able_sized : {size d : ℕ} {rs : List Run} {first : NodeFields} → RunsFit size d rs → first.size ≤ 4
    → Measurable rs first
able_sized {size} {d} {rs} z h =
    record {
      short = each_map (RunFits size d) (λ r. r.len ≤ longest_label) (λ r q. q.short) rs z.each;
      falls = z.falls;
      size = h;
    }

module _
    {names : List ℕ} {d : ℕ} {rs : List Run} {s n total back : ℕ} {put : Bool}
    (z : Finishing names d rs s n total back put) {without : NodeFields}
    (p : without ≡ plain_fields s) {other : ℕ} (a : other ≡ nodes_length without rs) {first : NodeFields}
    (b : first ≡ first_fields s other)
  where
    own_bytes_lem : nodes_bytes names d first rs ≡ group_own_bytes names d s rs
    unfolding group_own_bytes
    own_bytes_lem = rw (b, a, p)

    pub own_le : first.size ≤ 4
    own_le = rw b (own_size_most other)

    module _ {full : ℕ} (c : full ≡ nodes_length first rs) where
      full_is : full ≡ length (group_own_bytes names d s rs)
      full_is = c ∙ sym (length-nodes_bytes names d first rs z.able.each) ∙ ap length own_bytes_lem

      pub room_for : put ≡ true → back + full ≤ total
      room_for t = omega (arith, z.room t, full_is)

      pub all_fit : put ≡ true → AllFit (length names) d rs first n (total - back - full)
      all_fit t = record { able = z.able; small = own_le; room = rw (← c) (omega (arith, room_for t, z.inside t)) }

      pub finish_put :
          {dst out : List ℕ} → put ≡ true → out ≡ sets dst (total - back - full) (nodes_bytes names d first rs)
          → Finished names d rs s dst out total back put (back + full)
      unfolding put_if
      finish_put t e =
          let m : total - back - full ≡ total - (back + full) = omega arith in
          record { end = rw full_is; bytes = rw t (e ∙ rw (own_bytes_lem, m)) }

      pub finish_not : {dst : List ℕ} → put ≡ false → Finished names d rs s dst dst total back put (back + full)
      unfolding put_if
      finish_not t = record { end = rw full_is; bytes = rw t }
