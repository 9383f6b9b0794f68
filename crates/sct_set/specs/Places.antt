-- Where the items of a bucket lie. Proof plumbing: no public clause uses it.
use Rattle.std.specs.Prelude.{◌≡◌, ⊤, List, [], length}
use Rattle.sct_set.specs.declared.bucket.BucketItems.{BucketItems}
use Rattle.sct_set.specs.declared.bucket.BucketItems.TheVariants as place

-- the items of a bucket
abbrev pub placed : {V : Type 0} → BucketItems V → List V
placed place.Empty = []
placed (place.One items) = items
placed (place.Several items) = items.items

-- a place for one item has one
abbrev pub IsPlaced : {V : Type 0} → BucketItems V → Type 0
IsPlaced place.Empty = ⊤
IsPlaced (place.One items) = length items ≡ 1
IsPlaced (place.Several items) = ⊤
