-- The typed text of a panel of 48 bytes, after a sign is appended or erased.
use Prim.Native.Nat.{◌+◌, ◌-◌, ◌<◌, ◌≤◌, ℕ}
use mathlib.Core.Path.{◌≡◌}
use mathlib.Core.List.{List, ◌++◌}
use lib.ListN.{drop, length, length-append}
use lib.Seq.{length-take-le, sets, sets-eq, take-take, take_at}
use native.Mathlib.Omega.{arith}
use Rattle.entries.specs.Names.{last_sign, longest_name}
use Rattle.entries_laws.proofs.Prefixes.{last_within}
use Rattle.panel.specs.declared.Panel.{Panel}
use Rattle.panel.specs.Panel.{typed_in, without_last}
use Rattle.panel_typing.specs.Typing.{Typed}

module _ (p : Panel) (long : length p.text ≡ longest_name) where
  pub typed_length : p.len ≤ longest_name → length (typed_in p) ≡ p.len
  typed_length h = length-take-le p.len p.text (omega (arith, long))

  -- whatever else is in the panel q
  pub appends_sign : (q : Panel) (sign : List ℕ) → p.len + length sign ≤ longest_name
      → q.text ≡ sets p.text p.len sign → q.len ≡ p.len + length sign → Typed (typed_in p ++ sign) q
  appends_sign q sign h t n =
      let behind = drop (p.len + length sign) p.text in
      let l : length (typed_in p ++ sign) ≡ p.len + length sign = omega (
        arith,
        length-append (typed_in p) sign,
        typed_length (omega arith),
      ) in
      record {
        holds = rw (n, t, sets-eq sign p.text p.len (omega (arith, long)))
            (take_at (typed_in p ++ sign) behind (p.len + length sign) l);
        short = omega arith;
      }

  pub erases_last : (q : Panel) (last : ℕ) → p.len ≤ longest_name → last ≡ last_sign (typed_in p) → q.text ≡ p.text
      → q.len ≡ p.len - last → Typed (without_last (typed_in p)) q
  erases_last q last h l t n =
      let z : length (typed_in p) - last_sign (typed_in p) ≡ q.len = omega (arith, typed_length h) in
      record { holds = rw (z, t, take-take q.len p.len p.text (omega arith)); short = omega arith }

  -- there is one where the text is not empty
  pub last_fits : 0 < p.len → p.len ≤ longest_name → last_sign (typed_in p) ≤ p.len
  last_fits some h =
      let l = typed_length h in omega (arith, l, last_within (typed_in p) (omega (arith, l)))
