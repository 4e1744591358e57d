-- The command that a parse entered, and what its words give.
use Rattle.std.proofs.Common.{◌≡◌, true, inl, inr, Option, Some, None, List, [], ◌∷◌, refl, subst, option_map, option_and_then, Err, Result}
use Rattle.clap.specs.Kinds.{HasKind, IsAmong, Kinds}
use Rattle.clap.specs.Words.{App, Row, Text, fault_of, is_simple, is_simple_and_free, kind_of, subcommand_of}
use Rattle.clap.specs.declared.error.Error.{Error}
use Rattle.clap.specs.declared.error.kind.ErrorKind.TheVariants as kind
use Rattle.clap.proofs.OnLiterals.{clap_on_literals}
use Rattle.view_words.specs.Commands.{view_command}
use Rattle.view_words.specs.Wanted.{Gives, read_command, reading, wanted_of, where_accepted}
use Rattle.view_words.specs.declared.wanted.Wanted.{Wanted}
use Rattle.view_words.specs.declared.words.WordsFault.{WordsFault}
use Rattle.view_words.specs.declared.words.WordsFault.TheVariants as faults

-- a name and rows that are read apart stand together
pub pairs : {X P A B : Type 0} (o : Option X) (r : Option P) (f : X → A) (g : X → B) (a : P → A) (b : P → B)
    → option_map a r ≡ option_map f o → option_map b r ≡ option_map (λ (p : A × B). p.1) (option_map {U = A × B} (λ x. (f x, g x)) o)
    → option_map {U = A × B} (λ p. (a p, b p)) r ≡ option_map {U = A × B} (λ x. (f x, g x)) o
pairs None None f g a b names rows = refl
pairs None (Some p) f g a b names rows = cc
pairs (Some x) None f g a b names rows = cc
pairs (Some x) (Some p) f g a b names rows = cc

-- `clap` reads the command, and says which words it refuses
is_read : is_simple_and_free view_command ≡ true
unfolding clap_on_literals view_command
is_read = refl

simple : is_simple view_command ≡ true
unfolding clap_on_literals view_command
simple = refl

-- words in which `clap` finds no fault want what their command reads
taken : (words : List Text) (r : Result Wanted WordsFault) (entered : Option (Text × List Row))
    → fault_of view_command words ≡ [] → entered ≡ subcommand_of view_command words
    → Gives reading r (option_and_then read_command entered) → Gives reading r (wanted_of words)
unfolding wanted_of
taken words r entered faultless same gives = rw (faultless, ← same) gives

pub taken_by : (app : App) (words : List Text) (r : Result Wanted WordsFault) (entered : Option (Text × List Row)) (rows matched : List Row)
    → app ≡ view_command
    → (is_simple_and_free app ≡ true → fault_of app words ≡ [])
    → (is_simple app ≡ true → (rows ≡ matched) × (entered ≡ subcommand_of app words))
    → Gives reading r (option_and_then read_command entered) → Gives reading r (wanted_of words)
taken_by app words r entered rows matched built kinds matches gives = taken words r entered
    (subst (λ (a : App). is_simple_and_free a ≡ true → fault_of a words ≡ []) built kinds is_read)
    (subst (λ (a : App). is_simple a ≡ true → (rows ≡ matched) × (entered ≡ subcommand_of a words)) built matches simple).1
    gives

-- words that `clap` refuses have none
refused : (words : List Text) (e : Error) (fault : WordsFault) → HasKind (fault_of view_command words) e
    → (kind_of e ≡ kind.OutOfMemory → fault ≡ faults.NoMemory) → Gives reading (Err fault) (wanted_of words)
unfolding wanted_of
refused words e fault (inl memory) told = rw (told memory) tt
refused words e fault (inr among) told = go (fault_of view_command words) refl among
  where
    without : (f : WordsFault) → Gives reading (Err f) None
    without faults.Bad = refl
    without faults.NoMemory = tt

    go : (ks : Kinds) → fault_of view_command words ≡ ks → IsAmong (kind_of e) (fault_of view_command words)
        → Gives reading (Err fault) (where_accepted (fault_of view_command words) (subcommand_of view_command words))
    go [] is h = absurd (rw is at h)
    go (k ∷ ks) is h = rw is (without fault)

pub refused_by : (app : App) (words : List Text) (e : Error) (fault : WordsFault) → app ≡ view_command
    → (is_simple_and_free app ≡ true → HasKind (fault_of app words) e)
    → (kind_of e ≡ kind.OutOfMemory → fault ≡ faults.NoMemory) → Gives reading (Err fault) (wanted_of words)
refused_by app words e fault built kinds told = refused words e fault
    (subst (λ (a : App). is_simple_and_free a ≡ true → HasKind (fault_of a words) e) built kinds is_read) told
