use Rattle.std.proofs.Common.{◌≡◌, ◌∙◌, ap, List, [], ◌∷◌, ◌++◌, append_assoc}
use Rattle.script_lines.specs.declared.line.Line.{Line}
use Rattle.edge_load.proofs.lines.push_round.Goals as goal

-- one more line behind those that were added
more : (old before after ys : List Line) (x y : Line) → before ≡ old ++ ys → after ≡ before ++ x ∷ [] → x ≡ y → after ≡ old ++ (ys ++ y ∷ [])
more old before after ys x y before_is after_is x_is =
    after_is ∙ ap (λ (v : Line). before ++ v ∷ []) x_is ∙ ap (λ (l : List Line). l ++ y ∷ []) before_is ∙ append_assoc old ys (y ∷ [])

pub returns : goal.returns
returns c =
    let old = c.args.lines.now.items in
    let one = c.in_ok-push.ensures.items ∙ ap (λ (v : Line). old ++ v ∷ []) c.in_ok-looks.ensures in
    let two = more old c.push.new.self.items c.push-2.new.self.items _ _ _ one c.in_ok-push-2.ensures.items c.in_ok-inserts.ensures in
    let three = more old c.push-2.new.self.items c.push-3.new.self.items _ _ _ two c.in_ok-push-3.ensures.items c.in_ok-writes.ensures in
    let four = more old c.push-3.new.self.items c.push-4.new.self.items _ _ _ three c.in_ok-push-4.ensures.items c.finishes.ensures in
    more old c.push-4.new.self.items c.push-5.new.self.items _ _ _ four c.in_ok-push-5.ensures.items c.reads.ensures
