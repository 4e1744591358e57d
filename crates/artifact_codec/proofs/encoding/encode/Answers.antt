use Rattle.core_ir.specs.Plain.{lists_of}
use Rattle.artifact_codec.proofs.Short.{sets_are_short, clusters_are_short}
use Rattle.artifact_codec.proofs.encoding.encode.Goals as goal

pub push_lists-requires-clause-each : goal.push_lists-requires-clause-each
push_lists-requires-clause-each c = rw c.deref-in-Solved.ensures.value (sets_are_short (lists_of c.in-Solved.solution.sets.items) (rw c.in-Solved.is at c.requires))

pub push_lists-requires-in-Clusters-clause-each : goal.push_lists-requires-in-Clusters-clause-each
push_lists-requires-in-Clusters-clause-each c = rw c.deref-in-Clusters.ensures.value (clusters_are_short (lists_of c.in-Clusters.clusters.items) (rw c.in-Clusters.is at c.requires))
