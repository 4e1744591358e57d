-- What the events of a machine make of it.
use Rattle.std.specs.Prelude.{◌+◌, true, List, [], ◌∷◌, map, replicate, slice_set}
use Rattle.lease_table.specs.declared.event.Event.{Event}
use Rattle.lease_table.specs.declared.event.Event.TheVariants.{Kept, Claimed, Published, Abandoned, Expired, Advanced, Ended}
use Rattle.lease_table.specs.declared.standing.Standing.TheVariants.{Free, Leased, Done}
use Rattle.lease_table.specs.Machine.{Machine}
use Rattle.lease_table.specs.Standings.{expired}

-- the machine after an event
abbrev pub after : Machine → Event → Machine
after m (Kept task) = record m { next_ticket = m.next_ticket + 1; tasks = slice_set m.tasks task (Done m.next_ticket) }
after m (Claimed task until) = record m { next_ticket = m.next_ticket + 1; tasks = slice_set m.tasks task (Leased m.next_ticket until) }
after m (Published round task ticket) = record m { tasks = slice_set m.tasks task (Done ticket) }
after m (Abandoned task) = record m { tasks = slice_set m.tasks task Free }
after m (Expired now) = record m { tasks = map (expired now) m.tasks }
after m (Advanced tasks) = record m { round = m.round + 1; tasks = replicate tasks Free }
after m Ended = record m { ended = true }

-- the machine after all of them, in order
abbrev pub replay : Machine → List Event → Machine
replay m [] = m
replay m (event ∷ events) = replay (after m event) events
