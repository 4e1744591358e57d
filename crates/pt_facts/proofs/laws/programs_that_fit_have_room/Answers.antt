use Rattle.pt_facts.proofs.Room.{node_room, function_room}
use Rattle.pt_facts.proofs.laws.programs_that_fit_have_room.Goals as goal

pub returns-clause-nodes : goal.returns-clause-nodes
returns-clause-nodes c = node_room

pub returns-clause-functions : goal.returns-clause-functions
returns-clause-functions c = function_room
