use Rattle.std.proofs.Common.{sym, arith}
use Rattle.disk_memory.proofs.Places.{place_inside, place_found, place_left, none_left, place_others}
use Rattle.disk_memory.proofs.named.take_named.Goals as goal

pub remove-value-requires : goal.remove-value-requires
remove-value-requires g c = omega (arith, place_inside c.deref.result.now c.args.name.now c.in_ok-at.at c.in_ok-at.ensures, c.deref.ensures.len)

pub returns-clause-found : goal.returns-clause-found
returns-clause-found g c = sym (place_found c.args.list.now.items c.args.name.now c.in_ok-at.at c.remove-value.result (rw c.deref.ensures.value at c.in_ok-at.ensures) c.remove-value.ensures.value)

pub returns-clause-others : goal.returns-clause-others
returns-clause-others g c = λ other differs. rw c.remove-value.ensures.items (place_others c.args.list.now.items c.args.name.now other c.in_ok-at.at (rw c.deref.ensures.value at c.in_ok-at.ensures) differs)

pub returns-clause-left : goal.returns-clause-left
returns-clause-left g c = rw c.remove-value.ensures.items (place_left c.args.list.now.items c.args.name.now c.in_ok-at.at (rw c.deref.ensures.value at c.in_ok-at.ensures))

pub returns-in_err-at-clause-left : goal.returns-in_err-at-clause-left
returns-in_err-at-clause-left g c = sym (none_left c.args.list.now.items c.args.name.now (rw c.deref.ensures.value at c.in_err-at.ensures))
