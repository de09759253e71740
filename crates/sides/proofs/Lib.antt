-- What a caller cites: `Meeting` (a closed list has twins), `Twins`, `Order` (the sorted sides are in rising order, and the only ones), `Edge`, `Count`, `Whole` (side-upward, side-rising, side-found). The others lead there.
pub mod Meeting
pub mod Turns
pub mod Edge
pub mod Push
pub mod Write
pub mod Count
pub mod Order
pub mod Whole
pub mod Valence
pub mod Twins
