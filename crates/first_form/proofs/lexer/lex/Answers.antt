use Rattle.std.proofs.Common.{◌≡◌, ℕ, ◌+◌, ◌-◌, ◌≤◌, List, ◌∷◌, [], ◌++◌, length, take, drop, Some, None, refl, ap, sym, subst, ◌∙◌, arith, length-drop}
use Rattle.std.proofs.lemmas.List.{map_push, take_rest}
use Rattle.std.proofs.lemmas.List.Elements.{All-push}
use Rattle.first_form.specs.Pieces.{IsInFile, Piece, piece, pieces}
use Rattle.first_form.specs.computed.Scan.{piece_len, pieces_from}
use Rattle.first_form.proofs.Lexing.{with_front, newline_step, space_step, none_step, piece_step, with_more, ends}
use Rattle.first_form.proofs.lexer.lex.Goals as goal

pub loop-at-preserved-then-first-eq10 : goal.loop-at-preserved-then-first-eq10
loop-at-preserved-then-first-eq10 c = record {
  within = omega arith;
  few_lines = omega arith;
  few_columns = omega arith;
  cut = ap (with_front _) (sym (newline_step c.loop-at.line c.loop-at.col c.args.bytes.now c.loop-at.at c.loop-at-test.true c.if-first-eq10.true)) ∙ c.loop-at.invariant.cut;
  ranges = c.loop-at.invariant.ranges;
}

pub loop-at-preserved-then-first-eq32 : goal.loop-at-preserved-then-first-eq32
loop-at-preserved-then-first-eq32 c = record {
  within = omega arith;
  few_lines = omega arith;
  few_columns = omega arith;
  cut = ap (with_front _) (sym (space_step c.loop-at.line c.loop-at.col c.args.bytes.now c.loop-at.at c.loop-at-test.true c.if-first-eq32.true)) ∙ c.loop-at.invariant.cut;
  ranges = c.loop-at.invariant.ranges;
}

pub returns-in_default-clause-value : goal.returns-in_default-clause-value
returns-in_default-clause-value c =
    let none : piece_len (drop c.loop-at.at c.args.bytes.now) ≡ None = ap piece_len (sym (take_rest c.args.bytes.now c.loop-at.at)) ∙ sym c.in_default.ensures.value in
    sym c.loop-at.invariant.cut ∙ ap (with_front (pieces c.args.bytes.now c.loop-at.tokens.items)) (none_step c.loop-at.line c.loop-at.col c.args.bytes.now c.loop-at.at c.loop-at-test.true c.if-first-eq10.false c.if-first-eq32.false none)

pub loop-at-preserved : goal.loop-at-preserved
loop-at-preserved c =
    let bytes = c.args.bytes.now in
    let at = c.loop-at.at in
    let len = c.in-Some.len in
    let some : piece_len (drop at bytes) ≡ Some len = ap piece_len (sym (take_rest bytes at)) ∙ sym c.in-Some.ensures.value in
    let bound : len ≤ length (drop at bytes) = subst (λ (s : List ℕ). len ≤ length s) (take_rest bytes at) c.in-Some.ensures.bounds.1 in
    let inside : at + len ≤ length bytes = omega (arith, length-drop at bytes, c.in-Some.ensures.bounds.0) in
    let step = piece_step c.loop-at.line c.loop-at.col bytes at len c.loop-at-test.true c.if-first-eq10.false c.if-first-eq32.false some c.in-Some.ensures.bounds.0 inside in
    let p : Piece = record { text = take len (drop at bytes); line = c.loop-at.line; col = c.loop-at.col } in
    let same_len : (at + len) - at ≡ len = omega arith in
    let pushed : pieces bytes c.push.new.self.items ≡ pieces bytes c.loop-at.tokens.items ++ p ∷ [] = rw c.in_ok-push.ensures.items (map_push (piece bytes) c.loop-at.tokens.items _ ∙ rw same_len refl) in
    let rest = pieces_from 0 c.loop-at.line (c.loop-at.col + len) (drop (at + len) bytes) in
    record {
      within = inside;
      few_lines = omega arith;
      few_columns = omega arith;
      cut = ap (λ (f : List Piece). with_front f rest) pushed ∙ sym (with_more (pieces bytes c.loop-at.tokens.items) p rest) ∙ ap (with_front (pieces bytes c.loop-at.tokens.items)) (sym step) ∙ c.loop-at.invariant.cut;
      ranges = rw c.in_ok-push.ensures.items (All-push (IsInFile bytes) c.loop-at.tokens.items _ c.loop-at.invariant.ranges (record { ordered = omega arith; inside = inside }));
    }

pub returns-clause-value : goal.returns-clause-value
returns-clause-value c = ends (pieces c.args.bytes.now c.loop-at.tokens.items) c.loop-at.line c.loop-at.col c.args.bytes.now c.loop-at.at _ c.loop-at-test.false c.loop-at.invariant.cut
