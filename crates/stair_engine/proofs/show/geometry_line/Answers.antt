-- Each name and number, and the end of the line.
use Rattle.std.proofs.Common.{◌≡◌, ℕ, List, ◌++◌, append_assoc, ap, ◌∙◌}
use Rattle.std.specs.Prelude.{codes}
use Rattle.std.specs.Fmt.{decimal}
use Rattle.stair_model.specs.Geometry.{block_count}
use Rattle.stair_engine.specs.Show.{newline, spaced}
use Rattle.stair_engine.proofs.show.geometry_line.Goals as goal

-- pieces that were appended one after the other
joined : (a b c d e : List ℕ) → (((a ++ b) ++ c) ++ d) ++ e ≡ a ++ (b ++ (c ++ (d ++ e)))
joined a b c d e = simp append_assoc

-- names with their numbers
named : (a b c d e f rest : List ℕ) → ((a ++ b) ++ ((c ++ d) ++ ((e ++ f) ++ rest))) ≡ a ++ (b ++ (c ++ (d ++ (e ++ (f ++ rest)))))
named a b c d e f rest = simp append_assoc

whole : (n-name n m-name m r-name r e-name e s-name s b-name b end : List ℕ)
    → (((((((n-name ++ n) ++ (m-name ++ m)) ++ (r-name ++ r)) ++ e-name) ++ e) ++ (s-name ++ s)) ++ (b-name ++ b)) ++ end
    ≡ n-name ++ (n ++ (m-name ++ (m ++ (r-name ++ (r ++ (e-name ++ (e ++ (s-name ++ (s ++ (b-name ++ (b ++ end)))))))))))
whole n-name n m-name m r-name r e-name e s-name s b-name b end =
    joined ((((n-name ++ n) ++ (m-name ++ m)) ++ (r-name ++ r)) ++ e-name) e (s-name ++ s) (b-name ++ b) end
    ∙ joined (n-name ++ n) (m-name ++ m) (r-name ++ r) e-name (e ++ ((s-name ++ s) ++ ((b-name ++ b) ++ end)))
    ∙ ap (λ rest. (n-name ++ n) ++ ((m-name ++ m) ++ ((r-name ++ r) ++ (e-name ++ (e ++ rest)))))
    (append_assoc s-name s ((b-name ++ b) ++ end) ∙ ap (λ rest. s-name ++ (s ++ rest)) (append_assoc b-name b end))
    ∙ named n-name n m-name m r-name r (e-name ++ (e ++ (s-name ++ (s ++ (b-name ++ (b ++ end))))))

pub returns : goal.returns
returns c =
    let of = c.args.geometry.now in
    rw (
      c.push-2.ensures.text,
      c.push_named-5.ensures.text,
      c.push_named-4.ensures.text,
      c.push_coverage.ensures.text,
      c.push.ensures.text,
      c.push_named-3.ensures.text,
      c.push_named-2.ensures.text,
      c.push_named.ensures.text,
      c.new-line.ensures.text,
      c.from.ensures,
      c.n.ensures.value,
      c.from-2.ensures,
      c.m.ensures.value,
      c.from-3.ensures,
      c.r.ensures.value,
      c.from-4.ensures,
      c.stripes.ensures.value,
      c.blocks-2.ensures.value,
    )
    (whole (codes "geometry n ") (decimal of.n) (codes " m ") (decimal of.m) (codes " r ") (decimal of.r) (codes " e") (spaced of.e)
    (codes " stripes ") (decimal of.stripes) (codes " blocks ") (decimal (block_count of)) newline)
