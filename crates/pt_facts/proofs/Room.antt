-- A program that fits has room for the nodes and functions of its constraints.
use Rattle.std.proofs.Common.{◌≡◌, ◌+◌, ◌<◌, ◌≤◌, ◌^◌, List, [], ◌∷◌, length, map, sum, refl, ap, ◌∙◌, arith}
use Rattle.std.proofs.lemmas.List.{length-map}
use Rattle.std.proofs.lemmas.List.Sums.{sum_by-cons}
use Rattle.core_ir.specs.declared.program.CoreProgram.{CoreProgram}
use Rattle.core_ir.specs.declared.program.Function.{Function}
use Rattle.core_ir.specs.Programs.{function_of, external_of, program_of}
use Rattle.core_ir.specs.ProgramsFit.{ProgramFits}
use Rattle.pt_facts.specs.Nodes.{function_count, register_count, registers_of}

registers_same : (fs : List Function) → sum (map (λ f. length f.registers) (map function_of fs)) ≡ registers_of fs
registers_same [] = refl
registers_same (f ∷ fs) = sum_by-cons (λ n. n) (register_count f) (map (λ f. length f.registers) (map function_of fs)) ∙ ap (λ n. register_count f + n) (registers_same fs)

pub node_room : (p : CoreProgram) → ProgramFits (program_of p) → registers_of p.functions.items + length p.pointer_starts.items < 2 ^ 32
node_room p h = omega (arith, h.node_room, registers_same p.functions.items, h.pointer_count, length-map p.pointer_starts.items (λ v. v.items))

pub function_room : (p : CoreProgram) → ProgramFits (program_of p) → function_count p ≤ 2 ^ 31
function_room p h = omega (arith, h.function_room, h.external_room, length-map p.functions.items function_of, length-map p.externals.items external_of)
