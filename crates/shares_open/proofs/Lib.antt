-- What the shares of a bid and of a sheet open to.
pub mod Bids
pub mod Sheets
