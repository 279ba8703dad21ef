use Rattle.sal_shapes.specs.Shapes.{Fits}
use Rattle.sal_shapes.proofs.frame.frame_of.Goals as goal

pub returns-clause-fits : goal.returns-clause-fits
returns-clause-fits c = record { narrow = c.width_of-width.ensures.narrow; near = c.lane_x-side.ensures.near; few = c.requires }
