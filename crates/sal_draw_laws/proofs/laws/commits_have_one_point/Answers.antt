use Rattle.std.proofs.Common.{◌≡◌, ℕ, ◌-◌, ap, ◌∙◌, arith}
use Rattle.std.specs.Prelude.{map}
use Rattle.std.specs.List.{flat_map, range_with_len}
use Rattle.sal_draw.specs.Acts.{new_track}
use Rattle.sal_draw_laws.specs.Laws.{commit_in, track_along}
use Rattle.sal_draw_laws.proofs.Points.{of_all}
use Rattle.sal_draw_laws.proofs.laws.commits_have_one_point.Goals as goal

pub returns : goal.returns
returns c = λ made place said.
    let last = (track_along new_track said).decided in
    let all : last - 0 ≡ last = omega arith in
    of_all made new_track place said ∙ ap (λ (n : ℕ). flat_map commit_in (map made (range_with_len 0 n))) all
