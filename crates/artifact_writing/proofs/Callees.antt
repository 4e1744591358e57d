-- The order of calls is that of their callees.
use Rattle.std.proofs.Common.{◌≡◌, ℕ, ◌+◌, ◌<◌, ◌≤◌, true, false, nat_lt, ◌&&◌, List, [], ◌∷◌, length, get_or, drop, map, Option, Some, None, refl, sym, ap, ◌∙◌}
use Rattle.std.proofs.lemmas.List.{at_drop_more, at_drop_all}
use Rattle.core_ir.specs.declared.artifacts.CallPart.{CallPart}
use Rattle.core_ir.specs.Plain.{call_of, PlainCall}
use Rattle.artifact_codec.specs.Demands.{ascend, ascend_from, is_after}
use Rattle.artifact_writing.specs.Orders.{is_callee_before}

abbrev pub callees : List CallPart → List ℕ
callees [] = []
callees (c ∷ cs) = c.callee ∷ callees cs

after : (last : PlainCall) (cs : List CallPart) → ascend_from is_callee_before (Some last) (map call_of cs) ≡ ascend_from nat_lt (Some last.callee) (callees cs)
after last [] = refl
after last (c ∷ cs) = ap (λ z. nat_lt last.callee c.callee && z) (after (call_of c) cs)

pub by_callee : (cs : List CallPart) → ascend is_callee_before (map call_of cs) ≡ ascend_from nat_lt None (callees cs)
by_callee [] = refl
by_callee (c ∷ cs) = after (call_of c) cs

-- where one is not after the last, the calls do not ascend
pub refused : (last : Option ℕ) (cs : List CallPart) (i : ℕ) (d : CallPart) → i < length cs → is_after nat_lt last (get_or cs i d).callee ≡ false → ascend_from nat_lt last (callees (drop i cs)) ≡ ascend_from nat_lt None (callees cs) → false ≡ ascend is_callee_before (map call_of cs)
refused last cs i d inside not_after same =
    sym (by_callee cs ∙ sym same ∙ at_drop_more (λ xs. ascend_from nat_lt last (callees xs)) cs i d inside ∙ ap (λ z. z && ascend_from nat_lt (Some (get_or cs i d).callee) (callees (drop (i + 1) cs))) not_after)

pub accepted : (last : Option ℕ) (cs : List CallPart) (i : ℕ) → length cs ≤ i → ascend_from nat_lt last (callees (drop i cs)) ≡ ascend_from nat_lt None (callees cs) → true ≡ ascend is_callee_before (map call_of cs)
accepted last cs i whole same =
    sym (by_callee cs ∙ sym same ∙ at_drop_all (λ xs. ascend_from nat_lt last (callees xs)) cs i whole)
