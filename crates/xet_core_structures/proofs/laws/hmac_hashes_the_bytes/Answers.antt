use Rattle.xet_base.proofs.Blake3.{hmac_is_keyed}
use Rattle.xet_core_structures.proofs.laws.hmac_hashes_the_bytes.Goals as goal

pub returns : goal.returns
returns c = hmac_is_keyed
