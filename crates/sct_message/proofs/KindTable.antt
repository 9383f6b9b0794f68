-- The order of kinds as they are declared is that of their texts, pair by pair.
use Rattle.std.proofs.Common.{◌≡◌, refl}
use Rattle.std.specs.Ordering.{eq_by_cmp}
use Rattle.sct_message.specs.declared.kinds.Kind.{Kind}
use Rattle.sct_message.specs.declared.kinds.Kind.TheVariants.{Camt029, Camt056, Pacs002, Pacs004, Pacs008, Pacs028}
use Rattle.sct_message.specs.Order.{kind_order}
use Rattle.sct_message.specs.contracts.kinds.KindOrd.TheImpl as ordered
use Rattle.sct_message.specs.contracts.kinds.KindPartialEq.TheImpl as compared

pub declared_by_text : (j k : Kind) → ordered.ghosts.cmp j k ≡ kind_order j k
declared_by_text Camt029 Camt029 = refl
declared_by_text Camt029 Camt056 = refl
declared_by_text Camt029 Pacs002 = refl
declared_by_text Camt029 Pacs004 = refl
declared_by_text Camt029 Pacs008 = refl
declared_by_text Camt029 Pacs028 = refl
declared_by_text Camt056 Camt029 = refl
declared_by_text Camt056 Camt056 = refl
declared_by_text Camt056 Pacs002 = refl
declared_by_text Camt056 Pacs004 = refl
declared_by_text Camt056 Pacs008 = refl
declared_by_text Camt056 Pacs028 = refl
declared_by_text Pacs002 Camt029 = refl
declared_by_text Pacs002 Camt056 = refl
declared_by_text Pacs002 Pacs002 = refl
declared_by_text Pacs002 Pacs004 = refl
declared_by_text Pacs002 Pacs008 = refl
declared_by_text Pacs002 Pacs028 = refl
declared_by_text Pacs004 Camt029 = refl
declared_by_text Pacs004 Camt056 = refl
declared_by_text Pacs004 Pacs002 = refl
declared_by_text Pacs004 Pacs004 = refl
declared_by_text Pacs004 Pacs008 = refl
declared_by_text Pacs004 Pacs028 = refl
declared_by_text Pacs008 Camt029 = refl
declared_by_text Pacs008 Camt056 = refl
declared_by_text Pacs008 Pacs002 = refl
declared_by_text Pacs008 Pacs004 = refl
declared_by_text Pacs008 Pacs008 = refl
declared_by_text Pacs008 Pacs028 = refl
declared_by_text Pacs028 Camt029 = refl
declared_by_text Pacs028 Camt056 = refl
declared_by_text Pacs028 Pacs002 = refl
declared_by_text Pacs028 Pacs004 = refl
declared_by_text Pacs028 Pacs008 = refl
declared_by_text Pacs028 Pacs028 = refl

-- and they are equal where their texts are
pub equal_by_text : (j k : Kind) → compared.ghosts.eq j k ≡ eq_by_cmp kind_order j k
equal_by_text Camt029 Camt029 = refl
equal_by_text Camt029 Camt056 = refl
equal_by_text Camt029 Pacs002 = refl
equal_by_text Camt029 Pacs004 = refl
equal_by_text Camt029 Pacs008 = refl
equal_by_text Camt029 Pacs028 = refl
equal_by_text Camt056 Camt029 = refl
equal_by_text Camt056 Camt056 = refl
equal_by_text Camt056 Pacs002 = refl
equal_by_text Camt056 Pacs004 = refl
equal_by_text Camt056 Pacs008 = refl
equal_by_text Camt056 Pacs028 = refl
equal_by_text Pacs002 Camt029 = refl
equal_by_text Pacs002 Camt056 = refl
equal_by_text Pacs002 Pacs002 = refl
equal_by_text Pacs002 Pacs004 = refl
equal_by_text Pacs002 Pacs008 = refl
equal_by_text Pacs002 Pacs028 = refl
equal_by_text Pacs004 Camt029 = refl
equal_by_text Pacs004 Camt056 = refl
equal_by_text Pacs004 Pacs002 = refl
equal_by_text Pacs004 Pacs004 = refl
equal_by_text Pacs004 Pacs008 = refl
equal_by_text Pacs004 Pacs028 = refl
equal_by_text Pacs008 Camt029 = refl
equal_by_text Pacs008 Camt056 = refl
equal_by_text Pacs008 Pacs002 = refl
equal_by_text Pacs008 Pacs004 = refl
equal_by_text Pacs008 Pacs008 = refl
equal_by_text Pacs008 Pacs028 = refl
equal_by_text Pacs028 Camt029 = refl
equal_by_text Pacs028 Camt056 = refl
equal_by_text Pacs028 Pacs002 = refl
equal_by_text Pacs028 Pacs004 = refl
equal_by_text Pacs028 Pacs008 = refl
equal_by_text Pacs028 Pacs028 = refl
