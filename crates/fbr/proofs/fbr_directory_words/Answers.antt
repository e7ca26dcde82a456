use Rattle.std.proofs.Common.{ap, ◌∙◌, ◌&&◌, unwrap_or}
use Rattle.basics.specs.Basics.{within}
use Rattle.settings.specs.Buckets.{directory_words}
use Rattle.fbr.proofs.Laws.{given_or}
use Rattle.fbr.proofs.fbr_directory_words.Goals as goal

pub returns : goal.returns
returns c =
    let n = c.args.n in
    let cmax = c.args.cmax in
    c.unwrap_or.ensures ∙ ap (λ o. unwrap_or o 0) c.directory_words.ensures ∙ given_or (within 1 4096 n && within 1 64 cmax) (directory_words n cmax)
