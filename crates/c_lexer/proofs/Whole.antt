-- The lexer finds the cuts of the whole text or its first fault, and there is nothing else to find.
use Rattle.std.proofs.Common.{◌≡◌, ℕ, zero, suc, ◌+◌, ◌-◌, ◌<◌, ◌≤◌, true, false, eqb, List, [], ◌∷◌, ◌++◌, length, Option, Some, None, slice_get, IsErrOf, refl, sym, ap, ◌∙◌, subst, inl, inr, arith, append_assoc}
use Rattle.std.specs.Prelude.{Ok, Err}
use Rattle.std.proofs.lemmas.Bool.{cases_lt, eqb-true, false≢true}
use Rattle.sv_base.specs.declared.ids.FileId.{FileId}
use Rattle.sv_base.specs.declared.fault.FrontFault.{FrontFault}
use Rattle.sv_base.specs.declared.fault.FrontFault.TheVariants as refusals
use Rattle.sv_base.specs.declared.fault.FaultKind.TheVariants as faults
use Rattle.sv_base.specs.declared.fault.SourceFault.{SourceFault}
use Rattle.sv_base.specs.declared.place.Place.{Place}
use Rattle.c_syntax.specs.declared.token.Token.{Token}
use Rattle.c_syntax.specs.declared.token.Tokens.{Tokens}
use Rattle.c_syntax.specs.declared.token.TokenKind.TheVariants as kinds
use Rattle.c_lexer.specs.Bytes.{Text}
use Rattle.c_lexer.specs.Spots.{at_start, token_at}
use Rattle.c_lexer.specs.Cuts.{Names, Turn, Outcome, Outcome.Done, Outcome.Refused, fault_at, with_token, Cuts, most_file_bytes, IsLexed}
use Rattle.c_lexer.specs.computed.Scan.{Turned, turn, go_on, run, joined, Refuses, Ends, with_option, Extends}
use Rattle.c_lexer.specs.declared.spot.Spot.{Spot}
use Rattle.c_lexer.proofs.Pieces.{Right, turn_right}
use Rattle.c_lexer.proofs.PiecesAt.{piece_at, fault_at_turn}
use Rattle.c_lexer.proofs.Progress.{Goes, goes, no_fault, no_piece}

run_end : (turns : ℕ) (names : Names) (s : Spot) → run turns names s [] ≡ Done (token_at s kinds.End 0 ∷ []) names
unfolding run
run_end zero names s = refl
run_end (suc turns) names s = refl

run_more : (turns : ℕ) (names : Names) (s : Spot) (b : ℕ) (bs : Text) → run (suc turns) names s (b ∷ bs) ≡ go_on (run turns) names s (turn names s (b ∷ bs))
unfolding run
run_more turns names s b bs = refl

-- ---- what is found is defined
right_by : (turns : ℕ) (names : Names) (s : Spot) (text : Text) (r : Turned) → Right names s text r → length text ≤ suc turns
    → ((n : Names) (t : Spot) (u : Text) → length u ≤ turns → Cuts n t u (run turns n t u)) → Cuts names s text (go_on (run turns) names s r)
right_by turns names s text r (Right.fault f) le more = Cuts.stop f
right_by turns names s text r (Right.piece {t = t} p) le more = let g = (goes names s text t p).shorter in Cuts.more p (more t.names t.spot t.rest (omega (arith, g, le)))

pub run_right : (turns : ℕ) (names : Names) (s : Spot) (text : Text) → length text ≤ turns → Cuts names s text (run turns names s text)
run_right turns names s [] le = rw (run_end turns names s) Cuts.end
run_right zero names s (b ∷ bs) le = absurd (omega arith)
run_right (suc turns) names s (b ∷ bs) le =
    rw (run_more turns names s b bs) (right_by turns names s (b ∷ bs) (turn names s (b ∷ bs)) (turn_right names s b bs) le (λ n t u l. run_right turns n t u l))

-- ---- what is defined is found
pub run_at : (turns : ℕ) (names : Names) (s : Spot) (text : Text) (outcome : Outcome) → length text ≤ turns → Cuts names s text outcome → run turns names s text ≡ outcome
run_at turns names s text outcome le Cuts.end = run_end turns names s
run_at turns names s [] outcome le (Cuts.stop {kind = kind} f) = absurd (no_fault names s kind f)
run_at turns names s [] outcome le (Cuts.more {turn = t} p c) = absurd (no_piece names s t p)
run_at zero names s (b ∷ bs) outcome le c = absurd (omega arith)
run_at (suc turns) names s (b ∷ bs) outcome le (Cuts.stop {kind = kind} f) =
    run_more turns names s b bs ∙ ap (go_on (run turns) names s) (fault_at_turn names s (b ∷ bs) kind f)
run_at (suc turns) names s (b ∷ bs) outcome le (Cuts.more {turn = t} {outcome = o} p c) =
    let g = (goes names s (b ∷ bs) t p).shorter in
    run_more turns names s b bs ∙ (ap (go_on (run turns) names s) (piece_at names s (b ∷ bs) t p) ∙ ap (with_token t.token) (run_at turns t.names t.spot t.rest o (omega (arith, g, le)) c))

pub lexed_once : (bytes : Text) (name : FileId) (room : ℕ) (names : Names) (one other : Outcome) → IsLexed bytes name room names one → IsLexed bytes name room names other → one ≡ other
lexed_once bytes name room names one other (IsLexed.cut le a) (IsLexed.cut l b) =
    sym (run_at (length bytes) names (at_start name room) bytes one (omega arith) a) ∙ run_at (length bytes) names (at_start name room) bytes other (omega arith) b
lexed_once bytes name room names one other (IsLexed.cut le a) (IsLexed.too_large lt) = absurd (omega (arith, le, lt))
lexed_once bytes name room names one other (IsLexed.too_large lt) (IsLexed.cut le b) = absurd (omega (arith, le, lt))
lexed_once bytes name room names one other (IsLexed.too_large lt) (IsLexed.too_large l) = refl

pub lexed_some : (bytes : Text) (name : FileId) (room : ℕ) (names : Names) → (outcome : Outcome) × IsLexed bytes name room names outcome
lexed_some bytes name room names = elim (cases_lt most_file_bytes (length bytes)) [
  | inl lt ↦ (_, IsLexed.too_large lt)
  | inr le ↦ (_, IsLexed.cut le (run_right (length bytes) names (at_start name room) bytes (omega arith)))
]

-- ---- the loop
pub extends_on : (a b c : Names) → Extends a b → Extends b c → Extends a c
extends_on a b c x y = record { more = x.more ++ y.more; is = y.is ∙ (ap (λ (t : Names). t ++ y.more) x.is ∙ append_assoc a x.more y.more) }

pub empty_is : (text : Text) → true ≡ eqb (length text) 0 → text ≡ []
empty_is [] e = refl
empty_is (b ∷ bs) e = absurd (let n = eqb-true (length (b ∷ bs)) 0 (sym e) in omega (arith, n))

pub some_is : (text : Text) → false ≡ eqb (length text) 0 → 0 < length text
some_is [] e = absurd (false≢true e)
some_is (b ∷ bs) e = omega arith

pub none_left : (text : Text) (end turn : ℕ) → length text ≤ end - turn → end ≤ turn → text ≡ []
none_left [] end turn le h = refl
none_left (b ∷ bs) end turn le h = absurd (omega (arith, le, h))

pub turn_goes : (names : Names) (s : Spot) (text : Text) (t : Turn) → 0 < length text → turn names s text ≡ Ok t → Goes names s text t
turn_goes names s [] t some e = absurd (omega (arith, some))
turn_goes names s (b ∷ bs) t some e = by (turn names s (b ∷ bs)) (turn_right names s b bs) e
  where
    by : (r : Turned) → Right names s (b ∷ bs) r → r ≡ Ok t → Goes names s (b ∷ bs) t
    by r (Right.fault f) e = absurd cc
    by r (Right.piece {t = u} p) e = let same : u ≡ t = cc in subst (Goes names s (b ∷ bs)) same (goes names s (b ∷ bs) u p)

turns_left : (end turn : ℕ) → turn < end → end - turn ≡ suc (end - (turn + 1))
turns_left end turn lt = omega arith

run_step : (end at : ℕ) (names : Names) (s : Spot) (text : Text) → at < end → 0 < length text → run (end - at) names s text ≡ go_on (run (end - (at + 1))) names s (turn names s text)
run_step end at names s [] lt some = absurd (omega (arith, some))
run_step end at names s (b ∷ bs) lt some = ap (λ (n : ℕ). run n names s (b ∷ bs)) (turns_left end at lt) ∙ run_more (end - (at + 1)) names s b bs

pub ended : (whole : Outcome) (list all : List Token) (n : ℕ) (names : Names) (s : Spot) (text : Text) → joined list (run n names s text) ≡ whole → text ≡ [] → all ≡ list ++ token_at s kinds.End 0 ∷ []
    → whole ≡ Done all names
ended whole list all n names s text h is e =
    sym h ∙ (ap (λ (t : Text). joined list (run n names s t)) is ∙ (ap (joined list) (run_end n names s) ∙ ap (λ (t : List Token). Done t names) (sym e)))

pub refused : (whole : Outcome) (list : List Token) (end at : ℕ) (names new : Names) (s : Spot) (text : Text) (e : FrontFault) → joined list (run (end - at) names s text) ≡ whole
    → at < end → 0 < length text → new ≡ names → Refuses s e (turn names s text) → Ends e whole new
refused whole list end at names new s text refusals.NoMemory h lt some same r = tt
refused whole list end at names new s text (refusals.Fault fault) h lt some same r =
    sym h ∙ (ap (joined list) (run_step end at names s text lt some ∙ ap (go_on (run (end - (at + 1))) names s) r.1)
    ∙ (ap (λ (n : Names). Refused (fault_at s r.0) n) (sym same) ∙ ap (λ f. Refused f new) (sym r.2)))

joined_option : (list : List Token) (token : Option Token) (o : Outcome) → joined (with_option list token) o ≡ joined list (with_token token o)
joined_option list None o = refl
joined_option list (Some t) (Done ts names) = ap (λ (x : List Token). Done x names) (append_assoc list (t ∷ []) ts)
joined_option list (Some t) (Refused fault names) = refl

pub goes_on : (whole : Outcome) (list new : List Token) (end at : ℕ) (names : Names) (s : Spot) (text : Text) (t : Turn) → joined list (run (end - at) names s text) ≡ whole
    → at < end → 0 < length text → turn names s text ≡ Ok t → new ≡ with_option list t.token → joined new (run (end - (at + 1)) t.names t.spot t.rest) ≡ whole
goes_on whole list new end at names s text t h lt some e is =
    ap (λ (x : List Token). joined x (run (end - (at + 1)) t.names t.spot t.rest)) is
    ∙ (joined_option list t.token (run (end - (at + 1)) t.names t.spot t.rest)
    ∙ (sym (ap (joined list) (run_step end at names s text lt some ∙ ap (go_on (run (end - (at + 1))) names s) e)) ∙ h))

-- ---- the file
names_front : (old more : Names) (k : ℕ) → k < length old → slice_get (old ++ more) k ≡ slice_get old k
names_front [] more k lt = absurd (omega (arith, lt))
names_front (x ∷ xs) more zero lt = refl
names_front (x ∷ xs) more (suc k) lt = names_front xs more k (omega (arith, lt))

pub names_stand : (old new : Names) (k : ℕ) → Extends old new → k < length old → slice_get new k ≡ slice_get old k
names_stand old new k h lt = ap (λ (t : Names). slice_get t k) h.is ∙ names_front old h.more k lt

pub lexed_run : (bytes : Text) (name : FileId) (room : ℕ) (names : Names) (outcome : Outcome) (start : Spot) → length bytes ≤ most_file_bytes → start ≡ at_start name room
    → run (length bytes) names start bytes ≡ outcome → IsLexed bytes name room names outcome
lexed_run bytes name room names outcome start le at e =
    let whole : run (length bytes) names (at_start name room) bytes ≡ outcome = ap (λ (s : Spot). run (length bytes) names s bytes) (sym at) ∙ e in
    IsLexed.cut le (subst (Cuts names (at_start name room) bytes) whole (run_right (length bytes) names (at_start name room) bytes (omega arith)))

pub lexed_fault : (bytes : Text) (name : FileId) (room : ℕ) (names new : Names) (start : Spot) (fault : SourceFault) (refusal : FrontFault) → length bytes ≤ most_file_bytes → start ≡ at_start name room
    → Ends refusal (run (length bytes) names start bytes) new → IsErrOf {T = Tokens} {E = FrontFault} (Err refusal) (refusals.Fault fault) → IsLexed bytes name room names (Refused fault new)
lexed_fault bytes name room names new start fault refusal le at e is =
    let same : refusal ≡ refusals.Fault fault = cc in
    lexed_run bytes name room names (Refused fault new) start le at (subst (λ (r : FrontFault). Ends r (run (length bytes) names start bytes) new) same e)

pub too_large : (bytes : Text) (name : FileId) (room : ℕ) (names : Names) (place : Place) (fault : SourceFault) → most_file_bytes < length bytes → place ≡ record { file = name; line = 0; col = 0 }
    → IsErrOf {T = Tokens} {E = FrontFault} (Err (refusals.Fault (record { kind = faults.Limit 1; place = place }))) (refusals.Fault fault) → IsLexed bytes name room names (Refused fault names)
too_large bytes name room names place fault lt at is =
    let same : ◌≡◌ {A = SourceFault} (record { kind = faults.Limit 1; place = place }) fault = cc in
    subst (λ (f : SourceFault). IsLexed bytes name room names (Refused f names)) (ap (λ (p : Place). record { kind = faults.Limit 1; place = p }) (sym at) ∙ same) (IsLexed.too_large lt)
