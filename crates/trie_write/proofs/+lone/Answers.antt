use Rattle.std.proofs.Common.{ℕ, ◌+◌, ◌-◌, ◌<◌, ◌∙◌, arith, refl, subst, sym}
use Rattle.entries.specs.Names.{longest_name}
use Rattle.trie_write.proofs.Alone.{lone_falls, lone_finish, lone_grouped, lone_low, lone-none, lone_ready, row_long}
use Rattle.trie_write.proofs.+lone.Goals as goal

pub overflow_sub-all : goal.overflow_sub-all
overflow_sub-all t c = (row_long c.requires).0

pub returns-then-len-eq0 : goal.returns-then-len-eq0
returns-then-len-eq0 t c = lone-none c.requires (sym c.min-len.ensures ∙ c.if-len-eq0.true)

pub lone-n-requires : goal.lone-n-requires
lone-n-requires t c = (
  subst (λ (x : ℕ). longest_name - (c.args.d + c.min-len.result) < x) c.decreases
      (lone_falls c.requires c.min-len.ensures c.if-len-eq0.false),
  lone_ready c.requires c.min-len.ensures c.if-len-eq0.false c.args.dst.now refl,
)

pub overflow_cast-under : goal.overflow_cast-under
overflow_cast-under t c = omega (
  arith,
  lone_low c.requires c.min-len.ensures c.if-len-eq0.false refl c.lone-n.ensures,
)

pub finish-requires : goal.finish-requires
finish-requires t c =
    (omega arith, lone_finish c.requires c.min-len.ensures c.if-len-eq0.false refl c.lone-n.ensures)

pub returns : goal.returns
returns t c = lone_grouped c.requires c.min-len.ensures c.if-len-eq0.false refl c.lone-n.ensures
    c.finish.ensures
