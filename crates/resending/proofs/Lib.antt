-- That a bid which is sent again is refused, and that the order of bids does not matter.
pub mod NeverTwice
pub mod AnyOrder
