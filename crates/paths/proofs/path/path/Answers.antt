use Rattle.std.proofs.Common.{length, replicate, ap, ◌∙◌, rules}
use Rattle.paths.specs.Path.{lists, scope_of, path_means, blank_row, Answered}
use Rattle.paths.proofs.Walking.{found_within, shows}
use Rattle.paths.proofs.Asked.{path_law}
use Rattle.paths.proofs.path.path.Goals as goal

pub blank_behind-requires : goal.blank_behind-requires
blank_behind-requires g c = found_within _ _ _ c.run-result.ensures

pub returns : goal.returns
returns g c =
    let w = scope_of g.M.Model c.args.model.now (lists c.args.answer.now c.args.spare.now) in
    let a : Answered (path_means w c.args.query.now) c.run-result.result (lists c.args.answer.now c.args.spare.now) (lists c.blank_behind.new.rows c.fill.new.self) = record {
      answers = c.run-result.ensures.answers;
      shows = c.blank_behind.ensures ∙ shows _ _ c.run-result.new.answer (length c.args.answer.now) (search rules) c.run-result.ensures;
      blanks = c.fill.ensures.after (λ y e. e) ∙ ap (λ k. replicate k blank_row) (search rules);
    } in
    record { means = a; law = (path_means w c.args.query.now, path_law w c.args.query.now, a) }
