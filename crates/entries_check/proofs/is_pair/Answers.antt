-- `entries_check::is_pair` meets its contract. No loop.
use borrow.Author.Tests.{eq-eqb, ne_eqb}
use Rattle.entries_laws.proofs.Signs.{lead_not_pair, micro-pair, ohm-pair}
use mathlib.Core.Path.{sym}
use Rattle.entries_check.proofs.is_pair.Goals as goal

pub returns-then-a-eq-MICRO_LEAD : goal.returns-then-a-eq-MICRO_LEAD
returns-then-a-eq-MICRO_LEAD c =
    sym (micro-pair c.args.a c.args.b (eq-eqb _ _ c.if-a-eq-MICRO_LEAD.true))

pub returns-then-a-ne-OHM_LEAD : goal.returns-then-a-ne-OHM_LEAD
returns-then-a-ne-OHM_LEAD c =
    sym (lead_not_pair c.args.a c.args.b (ne_eqb _ _ c.if-a-eq-MICRO_LEAD.false) (ne_eqb _ _ c.if-a-ne-OHM_LEAD.true))

pub returns : goal.returns
returns c =
    sym (ohm-pair c.args.a c.args.b (ne_eqb _ _ c.if-a-eq-MICRO_LEAD.false) (eq-eqb _ _ c.if-a-ne-OHM_LEAD.false))
