use Rattle.routes.proofs.Jobs.{closing_product_does_not_count}
use Rattle.routes.proofs.closing_product_does_not_count.Goals as goal

pub returns : goal.returns
returns c = closing_product_does_not_count
