use Rattle.std.proofs.Common.{◌≡◌, ◌+◌, ◌++◌, ◌∷◌, ℕ, true, false, length, drop, refl, sym, ◌∙◌, ap, subst, arith}
use Rattle.std.proofs.lemmas.Bool.Decides.{nat_tests}
use Rattle.journal.specs.declared.scan.Scan.{Scan}
use Rattle.journal.specs.Format.{Entry, bytes_of}
use Rattle.journal.specs.Lists.{is_version, version_entry, IsSized}
use Rattle.journal.specs.Steps.{entry_of}
use Rattle.journal.proofs.Accepting.{read_plain, read_version, only_version, was_versioned}
use Rattle.journal.proofs.scan.Scan.accept.Goals as goal

pub returns-then-kept-clause-accepts : goal.returns-then-kept-clause-accepts
returns-then-kept-clause-accepts c = λ digests entries image here read stands.
    let entry : Entry = entry_of c.args.kept in
    let scan = c.args.self.now in
    let plain : is_version entry ≡ false = grind (arith, nat_tests) in
    let sized : IsSized entry = record { round = omega arith; task = omega arith; body = omega arith } in
    let whole : drop scan.at image ≡ (1 ∷ bytes_of entry) ++ drop (scan.at + 13 + length entry.body) image = subst (λ (a : ℕ). drop a image ≡ (1 ∷ bytes_of entry) ++ drop (a + 13 + length entry.body) image) here stands.whole in
    let end : c.args.kept.at + 13 + c.len.result ≡ scan.at + 13 + length entry.body = omega arith in
    let is = ap (λ (a : ℕ). let s : Scan = record scan { at = a } in s) end in
    (refl, read_plain digests entries entry scan (record scan { at = c.args.kept.at + 13 + c.len.result }) image read sized plain whole is, plain)

pub returns-then-not-may_be_version-clause-accepts :
    goal.returns-then-not-may_be_version-clause-accepts
returns-then-not-may_be_version-clause-accepts c = λ digests entries image here read stands.
    let entry : Entry = entry_of c.args.kept in
    let scan = c.args.self.now in
    let sized : IsSized entry = record { round = omega arith; task = omega arith; body = omega arith } in
    let is : is_version entry ≡ true = grind (arith, nat_tests) in
    let whole : drop scan.at image ≡ (1 ∷ bytes_of entry) ++ drop (scan.at + 13 + length entry.body) image = subst (λ (a : ℕ). drop a image ≡ (1 ∷ bytes_of entry) ++ drop (a + 13 + length entry.body) image) here stands.whole in (
      (
        entry,
        drop (scan.at + 13 + length entry.body) image,
        sized,
        whole,
        λ fit.
            let only = only_version scan.version digests entries entry is fit in
            let none = was_versioned scan.versioned (version_entry digests.current) _ read.versioned only.1 in
            let body : c.args.kept.body.items ≡ scan.current = ap (λ (e : Entry). e.body) only.2 ∙ sym read.current in
            let task : c.args.kept.task ≡ 2 = ap (λ (e : Entry). e.task) only.2 in
            let yes : c.may_be_version.result ≡ true = c.may_be_version.ensures.1 (only.0, none, task, body) in
            cc,
      ),
      refl,
    )

pub returns-clause-accepts : goal.returns-clause-accepts
returns-clause-accepts c = λ digests entries image here read stands.
    let entry : Entry = entry_of c.args.kept in
    let scan = c.args.self.now in
    let sized : IsSized entry = record { round = omega arith; task = omega arith; body = omega arith } in
    let whole : drop scan.at image ≡ (1 ∷ bytes_of entry) ++ drop (scan.at + 13 + length entry.body) image = subst (λ (a : ℕ). drop a image ≡ (1 ∷ bytes_of entry) ++ drop (a + 13 + length entry.body) image) here stands.whole in
    let end : c.args.kept.at + 13 + c.len.result ≡ scan.at + 13 + length entry.body = omega arith in
    let is = ap (λ (a : ℕ). let s : Scan = record scan { at = a; versioned = true } in s) end in
    let may : c.may_be_version.result ≡ true = cc in
    let says = c.may_be_version.ensures.0 may in
    let round : c.args.kept.round ≡ 4294967295 = c.if-kept.false in
    let right : entry ≡ version_entry digests.current = (λ i. let e : Entry = record { round = round i; task = says.2 i; body = (says.3 ∙ read.current) i } in e) in
    (read_version digests entries entry scan (record scan { at = c.args.kept.at + 13 + c.len.result; versioned = true }) image read sized says.0 says.1 right whole is, refl)
