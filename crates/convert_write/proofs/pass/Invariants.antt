-- `convert_write::pass` meets its contract. The loop's invariant: to pass the entries that are left gives what to pass
-- all of them gives (proofs/Whole).
use Rattle.convert_write.proofs.Whole.{Going}
use Rattle.convert_write.proofs.pass.Given as goal

abbrev pub invariant-loop-i : goal.invariant-loop-i
invariant-loop-i l = Going l.l l.m l.store l.n l.book l.initial.dst l.name l.len l.next l.at l.i l.dst
