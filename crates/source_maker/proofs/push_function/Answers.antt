use Rattle.std.proofs.Common.{◌≡◌, ℕ, List, [], ◌++◌, codes, append_assoc, ap, ◌∙◌}
use Rattle.std.proofs.lemmas.List.{append-nil}
use Rattle.std.specs.Fmt.{decimal}
use Rattle.source_maker.specs.Source.{function_text, length_of, index_of}
use Rattle.source_maker.proofs.push_function.Goals as goal

-- all of a function but its end, as texts with a number behind each
numbered : (k s j : ℕ) → List ℕ
numbered k s j = (codes "static int b" ++ decimal k)
    ++ ((codes "[" ++ decimal s)
    ++ ((codes "];\nint f" ++ decimal k)
    ++ ((codes "(int n){\n int i;\n for(i=0;i<" ++ decimal s)
    ++ ((codes ";i++) b" ++ decimal k)
    ++ ((codes "[i]=n+i;\n return b" ++ decimal k)
    ++ ((codes "[" ++ decimal j) ++ []))))))

-- the same texts and numbers, line by line
regroup : (a b c f h i l m n r e z k s j : List ℕ)
    → ((a ++ k) ++ ((b ++ s) ++ (((c ++ f) ++ k) ++ (((h ++ (i ++ l)) ++ s) ++ ((m ++ k) ++ (((n ++ r) ++ k) ++ ((b ++ j) ++ []))))))) ++ (e ++ z)
    ≡ (a ++ k ++ b ++ s ++ c) ++ (f ++ k ++ h) ++ i ++ (l ++ s ++ m ++ k ++ n) ++ (r ++ k ++ b ++ j ++ e) ++ z
regroup a b c f h i l m n r e z k s j = simp (append_assoc, append-nil)

split : (k x : ℕ) → numbered k (length_of x) (index_of x) ++ codes "];\n}\n" ≡ function_text k x
unfolding numbered function_text
split k x = regroup (codes "static int b") (codes "[") (codes "];\n") (codes "int f") (codes "(int n){\n") (codes " int i;\n") (codes " for(i=0;i<") (codes ";i++) b")
    (codes "[i]=n+i;\n") (codes " return b") (codes "];\n") (codes "}\n") (decimal k) (decimal (length_of x)) (decimal (index_of x))

-- two parts, one after the other
both : (old a b mid new : List ℕ) → mid ≡ old ++ a → new ≡ mid ++ b → new ≡ old ++ (a ++ b)
both old a b mid new e f = f ∙ ap (λ t. t ++ b) e ∙ simp append_assoc

pub returns : goal.returns
unfolding numbered
returns c =
    let e : c.push_numbered.new.text.items ≡ c.args.text.now.items ++ numbered c.args.k c.length_of-length.result c.index_of.result = c.in_ok-push_numbered.ensures in
    let f : c.push_numbered.new.text.items ≡ c.args.text.now.items ++ numbered c.args.k (length_of c.args.draw) (index_of c.args.draw) =
    rw (← c.index_of.ensures, ← c.length_of-length.ensures) e in
    both c.args.text.now.items (numbered c.args.k (length_of c.args.draw) (index_of c.args.draw)) (codes "];\n}\n")
    c.push_numbered.new.text.items c.extend_from_slice.new.self.items f c.in_ok-extend_from_slice.ensures.items
    ∙ ap (λ t. c.args.text.now.items ++ t) (split c.args.k c.args.draw)
