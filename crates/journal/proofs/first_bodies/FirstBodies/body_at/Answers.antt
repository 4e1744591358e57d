use Rattle.std.proofs.Common.{◌≡◌, ◌<◌, length, arith, rules}
use Rattle.indexmap.specs.IndexMap.{get}
use Rattle.journal.specs.Keys.{same_key, given}
use Rattle.journal.proofs.Firsts.{at_index, within, body_is, no_body}
use Rattle.journal.proofs.first_bodies.FirstBodies.body_at.Goals as goal

pub index-requires : goal.index-requires
index-requires c =
    let records = c.args.self.now.records.items in
    let inside : c.in-Some.index.now < length records = within c.in-Some.index.now records c.args.key (at_index (get same_key c.args.self.now.firsts c.args.key) c.in-Some.index.now (given records) c.args.key c.in-Some.ensures.value (c.requires c.args.key)) in
    omega (arith, inside)

pub returns-in_ok-to_vec-in-Some-clause-body : goal.returns-in_ok-to_vec-in-Some-clause-body
returns-in_ok-to_vec-in-Some-clause-body c =
    let records = c.args.self.now.records.items in
    let same : c.in_ok-to_vec-in-Some.field-0.items ≡ c.index.result.now.body.items = search rules in
    body_is c.in-Some.index.now records c.args.key c.index.result.now c.in_ok-to_vec-in-Some.field-0
    (at_index (get same_key c.args.self.now.firsts c.args.key) c.in-Some.index.now (given records) c.args.key c.in-Some.ensures.value (c.requires c.args.key)) c.index.ensures same

pub returns-in-None-clause-body : goal.returns-in-None-clause-body
returns-in-None-clause-body c =
    no_body (get same_key c.args.self.now.firsts c.args.key) (given c.args.self.now.records.items) c.args.key c.in-None.ensures.value (c.requires c.args.key)
