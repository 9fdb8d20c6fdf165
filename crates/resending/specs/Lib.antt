-- Bids that are sent again, and bids that come in another order.
pub mod Resent
pub mod AnyOrder
