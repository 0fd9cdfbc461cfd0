use Rattle.std.proofs.Common.{refl}
use Rattle.stores.proofs.store.Store.new.Goals as goal

pub returns-clause-wide : goal.returns-clause-wide
returns-clause-wide g c = λ last setting. (setting, tt, λ v _ _. refl)
