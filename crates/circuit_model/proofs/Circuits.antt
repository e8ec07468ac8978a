-- What a circuit keeps, at one device.
use Rattle.std.proofs.Common.{◌≡◌, ℕ, ◌<◌, ◌≤◌, true, List, length, get_or, Option, Some, refl, ◌∙◌, arith, ℤ}
use Rattle.std.specs.Prelude.{is_some}
use Rattle.semantics.specs.Deck.{DeckValue}
use Rattle.semantics.proofs.Limits.{limits}
use Rattle.circuit_model.specs.declared.kept_device.KeptDevice.{KeptDevice}
use Rattle.circuit_model.specs.Circuit.{IsCircuit, IsNumbered}
use Rattle.circuit_model.specs.Kept.{device_in}
use Rattle.circuit_model.specs.Numbers.{devices, place_of}
use Rattle.circuit_model.specs.Wiring.{DeviceValue, devices_of, is_wired}
use Rattle.circuit_model.proofs.DevicePlaces.{device_placed}
use Rattle.circuit_model.proofs.Kepts.{are_kept, kept_device, kept_there, kept_total}
use Rattle.circuit_model.proofs.Networks.{device_wired}
use Rattle.circuit_model.proofs.Numbered.{device_total, numbered}
use Rattle.circuit_model.proofs.Totals.{devices_few}

module _ (d : DeckValue) (names : List (List ℕ)) (grid : List ℤ) (items : List KeptDevice) (places : List (Option ℕ)) (near : List (List ℕ)) (is : IsCircuit d names grid items places near) where
  pub items_total : length items ≡ length (devices d)
  items_total = kept_total d items (devices_of d names) is.devices_are ∙ device_total d names (limits d is.valid)

  pub items_few : length items ≤ 100000
  items_few = omega (arith, kept_total d items (devices_of d names) is.devices_are, devices_few d names (limits d is.valid))

  pub item_there : (k : ℕ) (kept : KeptDevice) → k < length (devices d) → kept ≡ get_or items k kept → is_some (device_in d kept) ≡ true
  item_there k kept below at =
      let inside : k < length items = omega (arith, items_total, below) in
      kept_there d items k kept (are_kept d items (devices_of d names) is.devices_are) inside at

  pub item_at : (k : ℕ) (kept : KeptDevice) (device : DeviceValue) → k < length (devices d) → kept ≡ get_or items k kept → device_in d kept ≡ Some device → IsNumbered d names k device
  item_at k kept device below at made =
      let inside : k < length items = omega (arith, items_total, below) in
      numbered d names (devices_of d names) k device (limits d is.valid) refl below (kept_device d items (devices_of d names) k kept device is.devices_are inside at made)

  pub item_placed : (k : ℕ) (kept : KeptDevice) (device : DeviceValue) → k < length (devices d) → kept ≡ get_or items k kept → device_in d kept ≡ Some device → device.place ≡ place_of d k
  item_placed k kept device below at made =
      let inside : k < length items = omega (arith, items_total, below) in
      device_placed d names (devices_of d names) k device (limits d is.valid) refl below (kept_device d items (devices_of d names) k kept device is.devices_are inside at made)

  pub item_wired : (k : ℕ) (kept : KeptDevice) (device : DeviceValue) → k < length (devices d) → kept ≡ get_or items k kept → device_in d kept ≡ Some device → is_wired (length names) device ≡ true
  item_wired k kept device below at made =
      let inside : k < length items = omega (arith, items_total, below) in
      let within : k < length (devices_of d names) = omega (arith, device_total d names (limits d is.valid), below) in
      device_wired d names (devices_of d names) k device (limits d is.valid) refl within (kept_device d items (devices_of d names) k kept device is.devices_are inside at made)
