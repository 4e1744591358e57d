-- Reading on, maybe past a version record.
use Rattle.std.proofs.Common.{◌≡◌, ℕ, ◌<◌, List, [], ◌++◌, length, drop, sym, ◌∙◌, ap, subst, arith, Result, Ok, Err}
use Rattle.std.proofs.lemmas.List.{append-nil, length-take-le}
use Rattle.journal.specs.declared.digests.Digests.{Digests}
use Rattle.journal.specs.declared.digests.Version.{Version as Named}
use Rattle.journal.specs.declared.fault.OpenFault.{OpenFault}
use Rattle.journal.specs.declared.fault.OpenFault.TheVariants.{Disk, NotDatabase, OtherSource, Damaged, NoMemory}
use Rattle.journal.specs.declared.kept.Kept.{Kept}
use Rattle.journal.specs.declared.scan.Scan.{Scan}
use Rattle.journal.specs.declared.scan.Step.{Step}
use Rattle.journal.specs.declared.scan.Step.TheVariants.{Closed, Record}
use Rattle.journal.specs.Format.{Entry, opened, IsClosed}
use Rattle.journal.specs.Headers.{header_for}
use Rattle.journal.specs.Lists.{ordinary}
use Rattle.journal.specs.Scans.{HasRead}
use Rattle.journal.specs.Damages.{IsDamaged}
use Rattle.journal.specs.Steps.{StepsOn}
use Rattle.journal.specs.Nexts.{HandsOut, ComesToEnd, ReadsOn}

-- the offset of the next gate
pub gate_of : (digests : Digests) (entries : List Entry) (scan : Scan) (image : List ℕ) → HasRead digests entries scan image → scan.at < length image → length (header_for digests scan.version ++ opened entries) ≡ scan.at
gate_of digests entries scan image read inside = sym (ap length read.front) ∙ length-take-le scan.at image (omega (arith, inside))

module _ (digests : Digests) (entries passed : List Entry) (version : Named) (image : List ℕ) (no_more : ordinary passed ≡ []) where
  pub hands_out : (kept : Kept) (mid new : Scan) → mid.version ≡ version → mid.at < length image → HasRead digests (entries ++ passed) mid image → StepsOn digests (entries ++ passed) mid image new (Ok (Record kept))
      → HandsOut digests entries version kept image new
  hands_out kept mid new same inside read steps = record {
    passed = passed;
    no_more = no_more;
    plain = steps.1;
    read = steps.0;
    at = subst (λ (v : Named). length (header_for digests v ++ opened (entries ++ passed)) ≡ kept.at) same (gate_of digests (entries ++ passed) mid image read inside ∙ sym steps.2);
  }

  pub comes_to_end : (mid new : Scan) → HasRead digests (entries ++ passed) mid image → StepsOn digests (entries ++ passed) mid image new (Ok Closed) → ComesToEnd digests entries image new
  comes_to_end mid new read steps = record {
    passed = passed;
    no_more = no_more;
    read = subst (λ (s : Scan). HasRead digests (entries ++ passed) s image) (sym steps.1) read;
    closed = subst (λ (s : Scan). IsClosed (drop s.at image)) (sym steps.1) steps.0;
  }

  pub comes_to_fault : (fault : OpenFault) (mid new : Scan) → mid.version ≡ version → StepsOn digests (entries ++ passed) mid image new (Err fault) → ReadsOn digests entries version image new (Err fault)
  comes_to_fault (Damaged at) mid new same steps = record {
    passed = passed;
    no_more = no_more;
    damaged = subst (λ (v : Named). IsDamaged digests v (entries ++ passed) image at) same steps.0;
  }
  comes_to_fault Disk mid new same steps = tt
  comes_to_fault NoMemory mid new same steps = tt
  comes_to_fault NotDatabase mid new same steps = tt
  comes_to_fault (OtherSource s w) mid new same steps = tt

-- nothing passed so far
pub from_here : (digests : Digests) (entries : List Entry) (old new : Scan) (image : List ℕ) (r : Result Step OpenFault) → StepsOn digests entries old image new r → StepsOn digests (entries ++ []) old image new r
from_here digests entries old new image r steps = subst (λ (es : List Entry). StepsOn digests es old image new r) (sym (append-nil entries)) steps

pub read_here : (digests : Digests) (entries : List Entry) (scan : Scan) (image : List ℕ) → HasRead digests entries scan image → HasRead digests (entries ++ []) scan image
read_here digests entries scan image read = subst (λ (es : List Entry). HasRead digests es scan image) (sym (append-nil entries)) read

-- the same image on the disk as after the first step
pub again : (digests : Digests) (entries : List Entry) (mid new : Scan) (image other : List ℕ) (r : Result Step OpenFault) → other ≡ image → HasRead digests entries mid image → (HasRead digests entries mid other → StepsOn digests entries mid other new r) → StepsOn digests entries mid image new r
again digests entries mid new image other r same read steps = subst (λ (l : List ℕ). StepsOn digests entries mid l new r) same (steps (subst (HasRead digests entries mid) (sym same) read))
