-- A node that is there again was there in all commits between.
use Rattle.std.proofs.Common.{◌+◌, ◌-◌, ◌≤◌, arith}
use Rattle.sal_graft.specs.Following.{stamp_of}
use Rattle.sal_commit_laws.proofs.Ages.{again, old, rising_to}
use Rattle.sal_commit_laws.proofs.laws.stamps_never_come_again.Goals as goal

pub returns-clause-again : goal.returns-clause-again
returns-clause-again _ commits i j k b c d s p n m following first second at_b at_c at_d stands still same =
    again commits following i j k b c d s p n m first second at_b at_c at_d stands still same

pub returns-clause-new : goal.returns-clause-new
returns-clause-new _ commits j k c d s following less at_c at_d p n stands is =
    let most : n.stamp ≤ stamp_of c.receipt = old commits following j c s p n at_c stands in
    let rises : c.receipt + (k - j) ≤ d.receipt = rising_to commits following j k c d (omega (arith, less)) at_c at_d in
    omega (arith, less, most, rises, is)
