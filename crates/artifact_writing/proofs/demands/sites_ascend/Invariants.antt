use Rattle.std.proofs.Common.{◌≡◌, drop}
use Rattle.artifact_codec.specs.Demands.{ascend, ascend_from}
use Rattle.artifact_writing.specs.Orders.{is_site_before}
use Rattle.artifact_writing.proofs.demands.sites_ascend.Given as goal

abbrev pub invariant-loop-x : goal.invariant-loop-x
invariant-loop-x l = ascend_from is_site_before l.last (drop l.x-index l.list) ≡ ascend is_site_before l.list
