use Rattle.std.proofs.Common.{◌≡◌, ℕ, ◌<◌, ◌-◌, ◌++◌, ◌∷◌, [], List, length, ◌∙◌, sym, ap, subst, refl}
use Rattle.std.specs.Prelude.{map, string_bytes}
use Rattle.std.proofs.lemmas.List.{map-append}
use Rattle.survey.specs.computed.Asking.{asking}
use Rattle.survey.specs.Sources.{Source, source_of, sources_of}
use Rattle.survey.specs.declared.ending.Ending.TheVariants as endings
use Rattle.survey.proofs.Loads.{SoFar, stopped, turned, named_at}
use Rattle.survey.proofs.loading.load_all.Goals as goal

pub returns-in-Err-clause-stops : goal.returns-in-Err-clause-stops
returns-in-Err-clause-stops g c =
    let so = c.loop-name.invariant in
    let at = named_at _ _ c.loop-name.name-index c.name-item.result so.2 c.name-item.is c.loop-name-test.true in
    let stops = rw (so.1, c.as_str.ensures.value) at c.in-Err.ensures.stops in
    stopped (string_bytes c.name-item.result) c.in-Err.ending _ _ so.0 at c.load.ensures.counted stops

pub returns-in_default-clause-stops : goal.returns-in_default-clause-stops
returns-in_default-clause-stops g c =
    let so = c.loop-name.invariant in
    let at = named_at _ _ c.loop-name.name-index c.name-item.result so.2 c.name-item.is c.loop-name-test.true in
    stopped (string_bytes c.name-item.result) endings.NoMemory _ _ so.0 at c.load.ensures.counted tt

pub loop-name-preserved : goal.loop-name-preserved
loop-name-preserved g c =
    let so = c.loop-name.invariant in
    let file = source_of c.in-Ok.file in
    let at = named_at _ _ c.loop-name.name-index c.name-item.result so.2 c.name-item.is c.loop-name-test.true in
    let named = rw c.as_str.ensures.value at c.in-Ok.ensures.named in
    let stands = rw so.1 at c.in-Ok.ensures.stands in
    let more = turned (string_bytes c.name-item.result) file _ _ so.0 at named stands c.in-Ok.ensures.within c.in-Ok.ensures.all_read c.load.ensures.counted in
    (rw (c.in-Ok-push.ensures.items, map-append, c.len-room.ensures ∙ c.in-Ok.file.bytes.ok.0) more, c.load.ensures.same ∙ so.1, so.2)
