use Rattle.std.proofs.Common.{◌≡◌, Err, subst}
use Rattle.c_cursor.specs.declared.error.ReadError.{ReadError}
use Rattle.c_cursor.specs.declared.error.ReadError.TheVariants as errors
use Rattle.c_cursor.specs.Parsers.{Reads}
use Rattle.c_reads.specs.Postfix.{postfix}
use Rattle.c_postfix.proofs.Answered.{read, given, refused, past, never_spent}
use Rattle.c_postfix.proofs.inner.Postfix.postfix.Goals as goal

pub returns-in-Ok : goal.returns-in-Ok
returns-in-Ok g c = record {
  reads = c.in-Ok.ensures;
  found = λ inside. given (c.postfix_is_exact.ensures _ _ inside c.args.cursor.now) c.in-Ok.tree c.computed.new.cursor c.in-Ok.ensures;
  exactly = λ inside. read (c.postfix_is_exact.ensures _ _ inside c.args.cursor.now) c.in-Ok.tree c.computed.new.cursor c.in-Ok.ensures;
  wrong = λ inside left is. absurd cc;
  too_deep = λ inside is. absurd cc;
  turns = λ inside is. cc;
}

pub returns-in-Err : goal.returns-in-Err
returns-in-Err g c = record {
  reads = c.in-Err.ensures;
  found = λ inside. tt;
  exactly = λ inside. tt;
  wrong = λ inside left is.
      let same : c.in-Err.fault ≡ errors.Wrong left = cc in
      refused (c.postfix_is_exact.ensures _ _ inside c.args.cursor.now) left c.computed.new.cursor
      (subst (λ (e : ReadError). Reads (postfix (g.S.Inner.inside c.args.self.now.depth) (g.S.Inner.argument c.args.self.now.depth) c.args.cursor.now) (Err e) c.computed.new.cursor) same c.in-Err.ensures);
  too_deep = λ inside is.
      let same : c.in-Err.fault ≡ errors.TooDeep = cc in
      past (c.postfix_is_exact.ensures _ _ inside c.args.cursor.now) c.computed.new.cursor
      (subst (λ (e : ReadError). Reads (postfix (g.S.Inner.inside c.args.self.now.depth) (g.S.Inner.argument c.args.self.now.depth) c.args.cursor.now) (Err e) c.computed.new.cursor) same c.in-Err.ensures);
  turns = λ inside is.
      let same : c.in-Err.fault ≡ errors.Spent = cc in
      never_spent (c.postfix_is_exact.ensures _ _ inside c.args.cursor.now) c.computed.new.cursor
      (subst (λ (e : ReadError). Reads (postfix (g.S.Inner.inside c.args.self.now.depth) (g.S.Inner.argument c.args.self.now.depth) c.args.cursor.now) (Err e) c.computed.new.cursor) same c.in-Err.ensures);
}
